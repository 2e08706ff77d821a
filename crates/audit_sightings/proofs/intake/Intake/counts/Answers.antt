use Rattle.audit_sightings.proofs.RowSteps.{bounded}
use Rattle.audit_sightings.specs.Intake.{taken}
use Rattle.audit_sightings.proofs.intake.Intake.counts.Goals as goal

pub returns-clause-bounded : goal.returns-clause-bounded
returns-clause-bounded c = bounded (taken c.args.self.now) c.count.ensures.few.0 c.count.ensures.few.1 c.count.ensures.fits
