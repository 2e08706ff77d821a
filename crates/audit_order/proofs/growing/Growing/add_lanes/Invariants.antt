use Rattle.std.proofs.Common.{◌≡◌, ◌++◌, map, take}
use Rattle.audit_sightings.specs.Intake.{Taken}
use Rattle.audit_order.specs.Grown.{empty_lane}
use Rattle.audit_order.specs.Growing.{IsSound}
use Rattle.audit_order.proofs.growing.Growing.add_lanes.Given as goal

-- the lanes so far stand behind the others
abbrev pub invariant-pairs : goal.invariant-pairs
invariant-pairs l = record {
  lanes : l.self.lanes.items ≡ l.fn.self.lanes.items ++ map empty_lane (take l.pair-index l.pairs);
  drops : l.self.drops ≡ l.fn.self.drops;
  sound : (taken : Taken) → IsSound taken l.fn.self → IsSound taken l.self;
}
