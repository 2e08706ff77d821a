use Rattle.audit_sightings.specs.Intake.{taken}
use Rattle.tests_placing.proofs.tests.play.Goals as goal

pub portions-init : goal.portions-init
portions-init g c = c.new-placing.ensures.keeps (taken c.in_ok-intake.intake)
