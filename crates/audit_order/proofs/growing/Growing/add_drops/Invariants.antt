use Rattle.std.proofs.Common.{◌≡◌, ◌++◌, take}
use Rattle.audit_sightings.specs.Intake.{taken}
use Rattle.audit_order.specs.Growing.{IsSound}
use Rattle.audit_order.proofs.growing.Growing.add_drops.Given as goal

-- the drops so far stand behind the others
abbrev pub invariant-drops : goal.invariant-drops
invariant-drops l = record {
  lanes : l.self.lanes.items ≡ l.fn.self.lanes.items;
  drops : l.self.drops ≡ l.fn.self.drops ++ take l.dropped-index l.drops;
  sound : IsSound (taken l.intake) l.fn.self → IsSound (taken l.intake) l.self;
}
