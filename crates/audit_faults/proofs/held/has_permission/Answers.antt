use Rattle.std.proofs.Common.{ℕ, sym, subst}
use Rattle.audit_sightings.specs.Intake.{taken}
use Rattle.audit_faults.specs.Leased.{IsRequestBy}
use Rattle.audit_faults.proofs.Leasing.{permission_has_key}
use Rattle.audit_faults.proofs.held.has_permission.Goals as goal

pub returns : goal.returns
returns c = (
  λ t. c.granted_by.ensures.some t,
  λ e. c.granted_by.ensures.all e.0 e.1 (subst (λ (k : ℕ). IsRequestBy (taken c.args.intake.now) k e.0) (sym c.permission_key-key.ensures)
      (permission_has_key (taken c.args.intake.now) c.args.grant.now c.args.arrival.now c.args.departure.now c.args.ip e.0 c.requires.lease e.2)) e.2,
)
