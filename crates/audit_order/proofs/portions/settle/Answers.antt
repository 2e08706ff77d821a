use Rattle.std.proofs.Common.{refl}
use Rattle.audit_sightings.specs.Intake.{taken}
use Rattle.audit_order.proofs.KeptSteps.{count_settled, clean_settled}
use Rattle.audit_order.proofs.portions.settle.Goals as goal

pub returns-clause-places : goal.returns-clause-places
returns-clause-places c = λ sound.
    c.in_ok-places.ensures.places (clean_settled (taken c.args.intake.now) c.args.growing c.from.result c.args.growing.drops c.from.ensures refl sound)

pub returns-clause-count : goal.returns-clause-count
returns-clause-count c = λ sound.
    count_settled (taken c.args.intake.now) c.args.growing c.from.result c.args.growing.drops c.from.ensures refl c.requires.few_events sound

pub returns-clause-least : goal.returns-clause-least
returns-clause-least c = λ sound.
    c.in_ok-places.ensures.least (clean_settled (taken c.args.intake.now) c.args.growing c.from.result c.args.growing.drops c.from.ensures refl sound)

pub returns-clause-named : goal.returns-clause-named
returns-clause-named c = λ sound.
    c.in_ok-places.ensures.named (clean_settled (taken c.args.intake.now) c.args.growing c.from.result c.args.growing.drops c.from.ensures refl sound)
