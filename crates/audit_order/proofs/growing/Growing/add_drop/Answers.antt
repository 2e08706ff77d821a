use Rattle.std.proofs.Common.{refl}
use Rattle.audit_sightings.specs.Intake.{taken}
use Rattle.audit_order.proofs.GrowingSteps.{sound_dropped}
use Rattle.audit_order.proofs.growing.Growing.add_drop.Goals as goal

pub returns-clause-sound : goal.returns-clause-sound
returns-clause-sound c = λ sound.
    sound_dropped (taken c.args.intake.now) c.args.self.now c.take.new.self _ c.drops_end-end.result c.args.dropped
    c.drops_end-end.ensures c.take.ensures.clean c.take.ensures.count c.take.ensures.lanes c.take.ensures.drops
    refl c.in_ok-push.ensures.ok refl refl refl sound
