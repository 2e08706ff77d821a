use Rattle.std.proofs.Common.{sym, subst}
use Rattle.std.specs.Prelude.{OnOk}
use Rattle.audit_keys.specs.KeyFor.{key_for}
use Rattle.audit_model.specs.declared.event.Event.{Event}
use Rattle.audit_sightings.specs.Intake.{taken}
use Rattle.audit_live.specs.Steps.{GoesOn}
use Rattle.audit_live.proofs.lane.LiveLane.walk.Goals as goal

pub returns-in-In-clause-goes_on : goal.returns-in-In-clause-goes_on
returns-in-In-clause-goes_on c =
    subst (λ (e : Event). OnOk c.arrive.result (GoesOn (taken c.args.intake.now) (key_for c.args.credentials.now) c.args.self.now.number c.args.self.now.steps e c.args.self.now.state c.arrive.new.self.state))
    (sym c.in-In.is) c.arrive.ensures.goes_on

pub returns-in-Act-clause-goes_on : goal.returns-in-Act-clause-goes_on
returns-in-Act-clause-goes_on c =
    subst (λ (e : Event). OnOk c.act.result (GoesOn (taken c.args.intake.now) (key_for c.args.credentials.now) c.args.self.now.number c.args.self.now.steps e c.args.self.now.state c.act.new.self.state))
    (sym c.in-Act.is) c.act.ensures.goes_on

pub returns-in-Out-clause-goes_on : goal.returns-in-Out-clause-goes_on
returns-in-Out-clause-goes_on c =
    subst (λ (e : Event). OnOk c.leave.result (GoesOn (taken c.args.intake.now) (key_for c.args.credentials.now) c.args.self.now.number c.args.self.now.steps e c.args.self.now.state c.leave.new.self.state))
    (sym c.in-Out.is) c.leave.ensures.goes_on
