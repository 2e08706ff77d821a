use Rattle.std.proofs.Common.{◌≡◌, take}
use Rattle.audit_cuts.specs.Carried.{base_in}
use Rattle.audit_cuts.specs.Rebasing.{absolute_times}
use Rattle.audit_cuts.proofs.rebasing.moved_times.Given as goal

-- the entries so far have the same ids among all captured sightings
abbrev pub invariant-loop-came : goal.invariant-loop-came
invariant-loop-came l = absolute_times (base_in l.others) l.moved.items ≡ take l.came-index (absolute_times (base_in l.interfaces) l.times)
