use Rattle.std.proofs.Common.{false, ◌∙◌, subst, refl}
use Rattle.audit_keys.specs.KeyFor.{key_for}
use Rattle.audit_model.specs.declared.policy.Policy.{Policy}
use Rattle.audit_sightings.specs.Intake.{taken, sighting_at}
use Rattle.audit_segments.specs.Cut.{Cut, empty_cut}
use Rattle.audit_segments.specs.Segment.{IsSegment}
use Rattle.audit_segments.proofs.Claiming.{headline_of}
use Rattle.audit_machine.specs.Machine.{cut_of}
use Rattle.audit_machine.specs.Moves.{steps_of}
use Rattle.audit_machine.proofs.Complete.{all_name_included}
use Rattle.audit_machine.proofs.explaining.explains.Goals as goal

pub returns : goal.returns
returns c complete =
    let t = taken c.args.intake.now in
    let keys = key_for c.args.credentials.now in
    let steps = steps_of c.args.actions.now in
    let last : Cut = cut_of c.apply_all.new.self (λ _. false) in
    let one : IsSegment t.policy keys (sighting_at t) empty_cut steps last =
    subst (λ (a : Cut). IsSegment t.policy keys (sighting_at t) a steps last) c.new-machine.ensures.start
    (subst (λ (p : Policy). IsSegment p keys (sighting_at t) (cut_of c.new-machine.result (λ _. false)) steps last) (c.new-machine.ensures.policy ∙ c.in_ok-copy_of.ensures ∙ c.policy.ensures) (c.in_default.ensures.segment (λ _. false) (all_name_included c.args.actions.now))) in
    headline_of t keys steps last one (record { all = c.is_complete.ensures.placed complete; owed = λ x h. c.is_complete.ensures.owed complete x }) (λ s. refl)
