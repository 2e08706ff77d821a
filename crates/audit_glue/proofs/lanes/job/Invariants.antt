use Rattle.audit_keys.specs.KeyFor.{key_for}
use Rattle.audit_sightings.specs.Intake.{taken}
use Rattle.audit_glue.proofs.Jobs.{IsJobTo}
use Rattle.audit_glue.proofs.lanes.job.Given as goal

abbrev pub invariant-lanes : goal.invariant-lanes
invariant-lanes l = IsJobTo (taken l.fn.intake) (key_for l.fn.credentials) l.fn.certificate.lanes l.number l.job
