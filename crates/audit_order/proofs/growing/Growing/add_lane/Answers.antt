use Rattle.std.proofs.Common.{◌++◌, ◌∷◌, [], refl, ap, ◌∙◌}
use Rattle.audit_model.specs.declared.certificate.CertLane.{CertLane}
use Rattle.audit_order.proofs.GrowingSteps.{sound_lane}
use Rattle.audit_order.proofs.growing.Growing.add_lane.Goals as goal

pub returns-clause-sound : goal.returns-clause-sound
returns-clause-sound c = λ taken sound.
    sound_lane taken c.args.self.now _ c.args.pair
    (c.in_ok-push.ensures.items ∙ ap (λ events. let lane : CertLane = record { events = events; client = c.args.pair.0; listen = c.args.pair.1 } in c.args.self.now.lanes.items ++ lane ∷ []) c.new.ensures)
    refl refl refl refl sound
