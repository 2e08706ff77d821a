use Rattle.std.proofs.Common.{◌≡◌, ◌∙◌, ap, arith, refl, sym, length, take}
use Rattle.audit_model.specs.EventCount.{event_count}
use Rattle.audit_order.proofs.PortionSteps.{with_none, with_length, events_more, count_with}
use Rattle.audit_order.proofs.growing.Growing.add_events.Goals as goal

pub events-init : goal.events-init
events-init c = record {
  lanes = sym (with_none 0 c.args.self.now.lanes.items);
  drops = refl;
  count = omega arith;
  sound = λ sound. sound;
}

pub add_event-requires : goal.add_event-requires
add_event-requires c =
    let there = c.requires c.events.number-index _ (omega arith) in
    let same : length c.events.self.lanes.items ≡ length c.args.self.now.lanes.items =
    ap length c.events.invariant.lanes ∙ with_length 0 c.args.self.now.lanes.items (take c.events.number-index c.args.events.now) in
    rw same there

pub events-preserved : goal.events-preserved
events-preserved c =
    let old = c.args.self.now.lanes.items in
    let i = c.events.number-index in
    let there = c.requires i _ (omega arith) in
    let same : length c.events.self.lanes.items ≡ length old = ap length c.events.invariant.lanes ∙ with_length 0 old (take i c.args.events.now) in
    let count = ap event_count c.in_ok-add_event.ensures.lanes ∙ count_with c.events.self.lanes.items _ _ (rw same there) in
    record {
      lanes = events_more old c.events.self.lanes.items _ c.args.events.now i _ (omega arith) there c.in_ok-add_event.ensures.lanes c.events.invariant.lanes;
      drops = c.in_ok-add_event.ensures.drops ∙ c.events.invariant.drops;
      count = omega (arith, count, c.events.invariant.count);
      sound = λ sound. c.in_ok-add_event.ensures.sound (c.events.invariant.sound sound);
    }
