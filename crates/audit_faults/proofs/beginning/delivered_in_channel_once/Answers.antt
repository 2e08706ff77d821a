use Rattle.std.proofs.Common.{◌≡◌, true, false, sym, subst}
use Rattle.audit_model.specs.declared.policy.Policy.{Policy}
use Rattle.audit_faults.specs.Causes.{DeliveredInChannel}
use Rattle.audit_faults.proofs.beginning.delivered_in_channel_once.Goals as goal

pub returns-in_default : goal.returns-in_default
returns-in_default c = (
  λ h. absurd (let k : false ≡ true = h in cc),
  λ s. absurd (c.in_default.ensures.found s.0 (subst (λ (p : Policy). DeliveredInChannel p s.0 c.args.arrival.now c.args.departure.now) (sym c.policy.ensures) s.1)),
)
