use Rattle.audit_sightings.specs.Intake.{taken}
use Rattle.audit_order.proofs.KeptSteps.{stays_same}
use Rattle.tests_placing.proofs.tests.added.Goals as goal

pub add-requires : goal.add-requires
add-requires c = (c.in_ok-fits.ensures (taken c.args.intake.now) c.requires).0 c.if-not-branch.false

pub returns : goal.returns
returns c = c.in_ok-add.ensures.keeps (taken c.args.intake.now) c.requires (stays_same (taken c.args.intake.now))
