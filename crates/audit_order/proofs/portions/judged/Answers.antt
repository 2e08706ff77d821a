use Rattle.audit_sightings.specs.Intake.{taken}
use Rattle.audit_placement.specs.Keys.{key_at}
use Rattle.audit_placement.proofs.CleanSteps.{clean_shows_nothing}
use Rattle.audit_placement.proofs.CleanNamed.{clean_named}
use Rattle.audit_order.proofs.portions.judged.Goals as goal

pub returns-then-clean-clause-least : goal.returns-then-clean-clause-least
returns-then-clean-clause-least c = λ clean.
    clean_shows_nothing (taken c.args.intake.now) (key_at c.args.keys) c.args.certificate.now (clean c.if-clean.true)

pub returns-then-clean-clause-named : goal.returns-then-clean-clause-named
returns-then-clean-clause-named c = λ clean.
    clean_named (taken c.args.intake.now) (key_at c.args.keys) c.args.certificate.now (clean c.if-clean.true)
