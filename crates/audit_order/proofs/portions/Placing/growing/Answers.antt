use Rattle.std.proofs.Common.{refl, ap, ◌∙◌, sym, subst}
use Rattle.audit_order.specs.Kept.{AreOf}
use Rattle.audit_order.proofs.KeptSteps.{kept_sound}
use Rattle.audit_order.proofs.portions.Placing.growing.Goals as goal

pub returns-clause-sound : goal.returns-clause-sound
returns-clause-sound c = λ taken kept.
    kept_sound taken c.args.self.now.certificate _ c.args.self.now.count
    (c.into_vec.ensures ∙ ap (λ x. x.lanes) c.replace-certificate.ensures.value) (ap (λ x. x.drops) c.replace-certificate.ensures.value)
    (c.keys_of-keys.ensures taken c.args.self.now.certificate (subst (AreOf taken c.args.self.now.certificate) (sym c.replace-places.ensures.value) kept.places)) refl kept.count
