use Rattle.audit_sightings.specs.Intake.{taken}
use Rattle.audit_order.specs.Kept.{Keeps}
use Rattle.tests_placing.proofs.tests.play.Given as goal

abbrev pub invariant-portions : goal.invariant-portions
invariant-portions g l = Keeps (taken l.intake) l.placing
