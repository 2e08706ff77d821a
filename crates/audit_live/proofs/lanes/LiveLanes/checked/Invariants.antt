use Rattle.std.proofs.Common.{◌≡◌, ◌++◌, take}
use Rattle.std.specs.List.{flat_map}
use Rattle.audit_live.specs.CheckedTenancies.{held_by}
use Rattle.audit_live.proofs.lanes.LiveLanes.checked.Given as goal

-- the fresh ones, and those that are noted with the addresses of the ones so far
abbrev pub invariant-rows : goal.invariant-rows
invariant-rows l = l.checked.items ≡ l.rows ++ flat_map (held_by l.self.lanes.items l.self.holders l.last) (take l.tenancy-index l.rows)
