use Rattle.std.proofs.Common.{◌≡◌, false, List, [], ℕ, sym, ◌∙◌, ap, subst}
use Rattle.audit_sightings.specs.Intake.{sighting_at}
use Rattle.audit_segments.specs.Cut.{Cut, empty_cut}
use Rattle.audit_segments.specs.Segment.{IsSegment}
use Rattle.audit_segments.specs.Shifted.{shifted_cut}
use Rattle.audit_segments.proofs.Claiming.{no_steps}
use Rattle.audit_machine.specs.Carrying.{base_at, absolute_cut_of}
use Rattle.audit_watch.proofs.Watching.{shifted_empty}
use Rattle.audit_watch.proofs.watch.Watch.new.Goals as goal

pub returns-clause-start : goal.returns-clause-start
returns-clause-start c =
    ap (λ (l : List ℕ). absolute_cut_of l c.new.result (λ _. false)) c.new-3.ensures.items ∙ ap (λ (cut : Cut). shifted_cut (base_at []) (λ _. false) cut) c.new.ensures.start ∙ shifted_empty

pub returns-clause-claim : goal.returns-clause-claim
returns-clause-claim c all key_for =
    ([], subst (λ (cut : Cut). IsSegment all.policy key_for (sighting_at all) empty_cut [] cut) (sym (returns-clause-start c)) (no_steps all.policy key_for (sighting_at all) empty_cut))
