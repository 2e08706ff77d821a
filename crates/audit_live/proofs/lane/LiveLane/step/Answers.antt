use Rattle.std.proofs.Common.{inr, sym, subst}
use Rattle.audit_keys.specs.KeyFor.{key_for}
use Rattle.audit_sightings.specs.Intake.{taken}
use Rattle.audit_live.specs.declared.lane.LiveLane.{LiveLane}
use Rattle.audit_live.specs.Steps.{GoesOn}
use Rattle.audit_live.proofs.Known.{step_rest}
use Rattle.audit_live.proofs.lane.LiveLane.step.Goals as goal

pub returns-in-Ok : goal.returns-in-Ok
returns-in-Ok c =
    inr (record {
      whole = c.if-self.false;
      goes_on = subst (λ (l : LiveLane). GoesOn (taken c.args.intake.now) (key_for c.args.credentials.now) c.args.self.now.number c.args.self.now.steps c.args.event c.args.self.now.state l.state)
          (sym c.count.ensures.rest) c.in-Ok.ensures.goes_on;
      owing = c.count.ensures.owing;
      rest = step_rest c.args.self.now c.walk.new.self c.count.new.self c.in-Ok.ensures.rest c.count.ensures.rest;
    })
