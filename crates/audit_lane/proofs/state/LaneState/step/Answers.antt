use Rattle.std.proofs.Common.{subst, sym}
use Rattle.audit_lane.specs.Content.{happening}
use Rattle.audit_lane.specs.After.{after}
use Rattle.audit_lane.specs.Faults.{IsRight}
use Rattle.audit_lane.specs.Seen.{kept_of, terms_by, SameKept}
use Rattle.audit_lane.specs.declared.input.LaneEvent.{LaneEvent}
use Rattle.audit_lane.proofs.state.LaneState.step.Goals as goal

pub returns-in_ok-arrive-in-In-clause-after : goal.returns-in_ok-arrive-in-In-clause-after
returns-in_ok-arrive-in-In-clause-after c =
    let terms = terms_by c.args.number c.args.policy.now c.args.users.now in
    subst (λ (e : LaneEvent). SameKept (kept_of c.arrive.new.self) (after terms c.args.place (kept_of c.args.self.now) (happening e))) (sym c.in-In.is) (c.in_ok-arrive-in-In.ensures terms c.args.place)

pub returns-in-Ok-clause-right : goal.returns-in-Ok-clause-right
returns-in-Ok-clause-right c =
    subst (λ (e : LaneEvent). IsRight (terms_by c.args.number c.args.policy.now c.args.users.now) (kept_of c.args.self.now) (happening e)) (sym c.in-Out.is) (c.in-Ok.ensures.right c.args.users.now)

pub returns-in-Ok-clause-after : goal.returns-in-Ok-clause-after
returns-in-Ok-clause-after c =
    let terms = terms_by c.args.number c.args.policy.now c.args.users.now in
    subst (λ (e : LaneEvent). SameKept (kept_of c.leave.new.self) (after terms c.args.place (kept_of c.args.self.now) (happening e))) (sym c.in-Out.is) (c.in-Ok.ensures.after c.args.users.now)
