use Rattle.std.proofs.Common.{subst, sym}
use Rattle.audit_model.specs.declared.verdict.Breach.{Breach}
use Rattle.audit_lane.specs.Content.{Breaks, happening}
use Rattle.audit_lane.specs.Walk.{Shows}
use Rattle.audit_lane.specs.Judged.{IsJudged}
use Rattle.audit_lane.specs.Seen.{kept_of, terms_by, IsShown}
use Rattle.audit_lane.specs.declared.fault.LaneFault.{LaneFault}
use Rattle.audit_lane.proofs.Walking.{terms_same, first, on, stops, start_same}
use Rattle.audit_lane.proofs.finding.outcome_of.Goals as goal

pub events-init : goal.events-init
events-init c = first c.args.input.now c.events-events.result.now c.events-events.ensures.events (kept_of c.new-lane.result) (start_same c.args.input.now (kept_of c.new-lane.result) c.number.result c.client.result c.listen.result c.number.ensures c.client.ensures c.listen.ensures c.new-lane.ensures)

pub events-preserved : goal.events-preserved
events-preserved c =
    let terms = terms_by c.number-in-events.result c.policy.result.now c.users.result.now in
    on c.args.input.now c.events-events.result.now c.events-events.ensures.events terms (terms_same c.args.input.now c.number-in-events.result c.policy.result.now c.users.result.now c.number-in-events.ensures c.policy.ensures c.users.ensures)
    c.events.place c.index-events-place.result (kept_of c.events.lane) (kept_of c.step.new.self) c.events-test.true c.index-events-place.is c.in-Ok.ensures.right c.in-Ok.ensures.after c.events.invariant

pub returns-in-Err-Broken : goal.returns-in-Err-Broken
returns-in-Err-Broken c =
    let terms = terms_by c.number-in-events.result c.policy.result.now c.users.result.now in
    subst (λ (b : Breach). IsJudged c.args.input.now (Breaks b)) (sym c.in-Err-Broken.breach-is)
    (stops c.args.input.now c.events-events.result.now c.events-events.ensures.events terms (terms_same c.args.input.now c.number-in-events.result c.policy.result.now c.users.result.now c.number-in-events.ensures c.policy.ensures c.users.ensures)
    c.events.place c.index-events-place.result (kept_of c.events.lane) c.in-Err-Broken.breach c.events-test.true c.index-events-place.is
    (subst (λ (f : LaneFault). IsShown f (Shows terms c.events.place (kept_of c.events.lane) (happening c.index-events-place.result))) c.in-Err-Broken.field-0-is c.in-Err-Broken.ensures.shows)
    c.events.invariant)
