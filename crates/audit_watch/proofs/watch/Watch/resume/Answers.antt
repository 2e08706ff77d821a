use Rattle.std.proofs.Common.{◌≡◌, false, List, [], ℕ, sym, ◌∙◌, ap, subst}
use Rattle.audit_sightings.specs.Intake.{sighting_at}
use Rattle.audit_cuts.specs.Absolute.{absolute_cut}
use Rattle.audit_segments.specs.Cut.{Cut}
use Rattle.audit_segments.specs.Segment.{IsSegment}
use Rattle.audit_segments.specs.Shifted.{shifted_cut}
use Rattle.audit_segments.proofs.Claiming.{no_steps}
use Rattle.audit_cuts.specs.Carried.{base_in}
use Rattle.audit_cuts.specs.Rebasing.{bases_of}
use Rattle.audit_machine.specs.Carrying.{absolute_cut_of}
use Rattle.audit_watch.proofs.watch.Watch.resume.Goals as goal

pub returns-clause-cut : goal.returns-clause-cut
returns-clause-cut c =
    ap (λ (l : List ℕ). absolute_cut_of l c.in_ok-resume.field-0 (λ _. false)) (c.in_ok-bases_from.ensures ∙ ap bases_of c.deref.ensures.value)
    ∙ ap (shifted_cut (base_in c.args.carried.now.interfaces.items) (λ _. false)) (c.in_ok-resume.ensures.cut (λ _. false))

pub returns-clause-claim : goal.returns-clause-claim
returns-clause-claim c all key_for =
    let first : Cut = absolute_cut c.args.carried.now (λ _. false) in
    ([], subst (λ (cut : Cut). IsSegment all.policy key_for (sighting_at all) first [] cut) (sym (returns-clause-cut c)) (no_steps all.policy key_for (sighting_at all) first))
