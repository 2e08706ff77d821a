use Rattle.std.proofs.Common.{List, set, ap, ◌∙◌}
use Rattle.audit_model.specs.declared.certificate.CertLane.{CertLane}
use Rattle.audit_model.specs.declared.event.Event.{Event}
use Rattle.audit_order.proofs.GrowingSteps.{set_event}
use Rattle.audit_order.proofs.growing.Growing.push_event.Goals as goal

pub returns-clause-lanes : goal.returns-clause-lanes
returns-clause-lanes c =
    let lane = c.index_mut.result.now in
    ap (λ (events : List Event). let now : CertLane = record { events = events; client = lane.client; listen = lane.listen } in set c.args.self.now.lanes.items c.args.number now) c.in_ok-push.ensures.ok
    ∙ set_event c.args.self.now.lanes.items c.args.number lane c.args.event c.requires c.index_mut.ensures.value
