use Rattle.std.proofs.Common.{List, Some, take, length, ◌<◌, ◌∙◌, subst, arith, length-take}
use Rattle.std.proofs.lemmas.List.{take_all, take_more}
use Rattle.audit_model.specs.declared.event.Event.{Event}
use Rattle.audit_model.specs.Least.{IsLeast}
use Rattle.audit_sightings.specs.Intake.{taken}
use Rattle.audit_placement.specs.Cuts.{ShowsCutIn}
use Rattle.audit_placement.specs.Entries.{lane_entries}
use Rattle.audit_placement.proofs.CutSteps.{cut_push}
use Rattle.audit_placement.proofs.cuts.lane_cut.Goals as goal

pub events-preserved : goal.events-preserved
events-preserved c =
    let items = c.as_slice-event-items.result.now in
    let place = c.events.place in
    let within : place < length items = omega arith in
    cut_push (taken c.args.intake.now) c.args.certificate.now.skews _ c.args.number place (take place items) _ _ _ _ _ _ c.events.invariant (omega (arith, length-take place items))
    (take_more items place _ within) c.key.ensures c.cut_at-found.ensures c.least-least.ensures

pub returns : goal.returns
returns c =
    let items = c.as_slice-event-items.result.now in
    let lane = c.args.lane.now in
    subst (λ (events : List Event). IsLeast (ShowsCutIn (taken c.args.intake.now) c.args.certificate.now.skews (lane_entries c.args.number (record lane { events = events }))) c.events.least)
    (take_all c.events.place items (omega arith) ∙ c.as_slice-event-items.ensures) c.events.invariant
