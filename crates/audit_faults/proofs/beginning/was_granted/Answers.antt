use Rattle.audit_sightings.specs.Intake.{taken}
use Rattle.audit_faults.proofs.Once.{once_granted, granted_once}
use Rattle.audit_faults.proofs.beginning.was_granted.Goals as goal

pub returns : goal.returns
returns c = (
  λ t. once_granted (taken c.args.intake.now) c.args.grant.now c.args.always.now c.args.left.now (c.has_grant.ensures.0 t),
  λ w. c.has_grant.ensures.1 (granted_once (taken c.args.intake.now) c.args.grant.now c.args.always.now c.args.left.now c.requires.always w),
)
