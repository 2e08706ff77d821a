use Rattle.std.proofs.Common.{◌≡◌, take}
use Rattle.audit_model.specs.declared.sighting.SightId.{SightId}
use Rattle.audit_cuts.specs.Carried.{moment_in}
use Rattle.audit_machine.specs.Times.{time_of}
use Rattle.audit_machine.proofs.times.Times.resume.Given as goal

-- the moments are those of the entries so far
abbrev pub invariant-loop-came : goal.invariant-loop-came
invariant-loop-came l = (s : SightId) → time_of l.times s ≡ moment_in (take l.came-index l.all) s
