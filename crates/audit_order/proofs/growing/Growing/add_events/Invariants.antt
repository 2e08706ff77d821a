use Rattle.std.proofs.Common.{◌≡◌, ◌+◌, take}
use Rattle.audit_model.specs.EventCount.{event_count}
use Rattle.audit_sightings.specs.Intake.{taken}
use Rattle.audit_order.specs.Grown.{with_events}
use Rattle.audit_order.specs.Growing.{IsSound}
use Rattle.audit_order.proofs.growing.Growing.add_events.Given as goal

-- the events so far stand in their lanes
abbrev pub invariant-events : goal.invariant-events
invariant-events l = record {
  lanes : l.self.lanes.items ≡ with_events 0 l.fn.self.lanes.items (take l.number-index l.events);
  drops : l.self.drops ≡ l.fn.self.drops;
  count : event_count l.self.lanes.items ≡ event_count l.fn.self.lanes.items + l.number-index;
  sound : IsSound (taken l.intake) l.fn.self → IsSound (taken l.intake) l.self;
}
