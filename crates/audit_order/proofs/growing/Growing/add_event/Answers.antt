use Rattle.audit_sightings.specs.Intake.{taken}
use Rattle.audit_order.proofs.GrowingSteps.{sound_taken}
use Rattle.audit_order.proofs.growing.Growing.add_event.Goals as goal

pub returns-clause-sound : goal.returns-clause-sound
returns-clause-sound c = λ sound.
    sound_taken (taken c.args.intake.now) c.args.self.now c.take.new.self c.push_event.new.self c.args.number c.lane_end-end.result c.args.event c.requires
    c.lane_end-end.ensures c.take.ensures.clean c.take.ensures.count c.take.ensures.lanes c.take.ensures.drops
    c.in_ok-push_event.ensures.lanes c.push_event.ensures.drops c.push_event.ensures.keys c.push_event.ensures.clean c.push_event.ensures.count sound
