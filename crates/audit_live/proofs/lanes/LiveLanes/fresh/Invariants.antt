use Rattle.std.proofs.Common.{◌≡◌, take}
use Rattle.std.specs.List.{flat_map}
use Rattle.audit_live.specs.CheckedTenancies.{fresh_at}
use Rattle.audit_live.proofs.lanes.LiveLanes.fresh.Given as goal

-- those of the lanes so far
abbrev pub invariant-touched : goal.invariant-touched
invariant-touched l = l.fresh.items ≡ flat_map (fresh_at l.self.lanes.items) (take l.number-index l.touched)
