use Rattle.std.proofs.Common.{subst, sym}
use Rattle.std.specs.Prelude.{Option, OnOk, IfErr, IfSome}
use Rattle.audit_lane.specs.Content.{Happening, happening}
use Rattle.audit_lane.specs.After.{after}
use Rattle.audit_lane.specs.Faults.{IsRight}
use Rattle.audit_lane.specs.Kept.{Terms}
use Rattle.audit_lane.specs.Walk.{Shows}
use Rattle.audit_lane.specs.Judged.{terms_of}
use Rattle.audit_lane.specs.Seen.{kept_of, IsShown, SameKept}
use Rattle.audit_lane.proofs.Walking.{terms_same, event_there}
use Rattle.audit_lane.proofs.lane.Lane.step.Goals as goal

pub returns-clause-right : goal.returns-clause-right
returns-clause-right c =
    let is = terms_same c.args.self.now.input.now c.number.result c.policy.result.now c.users.result.now c.number.ensures c.policy.ensures c.users.ensures in
    let there = event_there c.args.self.now.input.now c.events-events.result.now c.events-events.ensures.events c.args.place c.index-events-place.result c.requires c.index-events-place.is in
    subst (λ (o : Option Happening). OnOk c.step.result (IfSome o (IsRight (terms_of c.args.self.now.input.now) (kept_of c.args.self.now.state)))) (sym there)
    (subst (λ (t : Terms). OnOk c.step.result (IsRight t (kept_of c.args.self.now.state) (happening c.index-events-place.result))) is c.step.ensures.right)

pub returns-clause-after : goal.returns-clause-after
returns-clause-after c =
    let is = terms_same c.args.self.now.input.now c.number.result c.policy.result.now c.users.result.now c.number.ensures c.policy.ensures c.users.ensures in
    let there = event_there c.args.self.now.input.now c.events-events.result.now c.events-events.ensures.events c.args.place c.index-events-place.result c.requires c.index-events-place.is in
    subst (λ (o : Option Happening). OnOk c.step.result (IfSome o (λ event. SameKept (kept_of c.step.new.self) (after (terms_of c.args.self.now.input.now) c.args.place (kept_of c.args.self.now.state) event)))) (sym there)
    (subst (λ (t : Terms). OnOk c.step.result (SameKept (kept_of c.step.new.self) (after t c.args.place (kept_of c.args.self.now.state) (happening c.index-events-place.result)))) is c.step.ensures.after)

pub returns-clause-shows : goal.returns-clause-shows
returns-clause-shows c =
    let is = terms_same c.args.self.now.input.now c.number.result c.policy.result.now c.users.result.now c.number.ensures c.policy.ensures c.users.ensures in
    let there = event_there c.args.self.now.input.now c.events-events.result.now c.events-events.ensures.events c.args.place c.index-events-place.result c.requires c.index-events-place.is in
    subst (λ (o : Option Happening). IfErr c.step.result (λ fault. IsShown fault (λ breach. IfSome o (λ event. Shows (terms_of c.args.self.now.input.now) c.args.place (kept_of c.args.self.now.state) event breach)))) (sym there)
    (subst (λ (t : Terms). IfErr c.step.result (λ fault. IsShown fault (Shows t c.args.place (kept_of c.args.self.now.state) (happening c.index-events-place.result)))) is c.step.ensures.shows)
