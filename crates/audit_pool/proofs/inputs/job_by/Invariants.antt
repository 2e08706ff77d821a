use Rattle.audit_keys.specs.KeyFor.{key_for}
use Rattle.audit_sightings.specs.Intake.{taken}
use Rattle.audit_glue.proofs.Jobs.{IsJobTo}
use Rattle.audit_pool.proofs.inputs.job_by.Given as goal

abbrev pub invariant-lanes : goal.invariant-lanes
invariant-lanes g l = IsJobTo (taken l.fn.intake) (key_for l.fn.credentials) l.fn.certificate.lanes l.place-index l.job
