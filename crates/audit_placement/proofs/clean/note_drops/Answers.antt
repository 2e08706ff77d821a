use Rattle.std.proofs.Common.{◌++◌, ◌∙◌, List, ap, arith, map, refl, subst, take}
use Rattle.std.proofs.lemmas.List.{map-append, take_all, take_more}
use Rattle.audit_model.specs.declared.certificate.CertDrop.{CertDrop}
use Rattle.audit_sightings.specs.Intake.{taken}
use Rattle.audit_placement.specs.Clean.{IsClean}
use Rattle.audit_placement.specs.Entries.{arrival_of, drop_entries}
use Rattle.audit_placement.specs.Keys.{key_at}
use Rattle.audit_placement.proofs.CleanTurns.{clean_turn}
use Rattle.audit_placement.proofs.clean.note_drops.Goals as goal

pub drops-preserved : goal.drops-preserved
drops-preserved c =
    let items = c.args.drops.now in
    let i = c.drops.dropped-index in
    clean_turn _ _ (key_at c.drops.keys) _ _ (map arrival_of (take i items)) _ c.drops.last _ _ c.drops.invariant
    (ap (map arrival_of) (take_more items i _ (omega arith)) ∙ map-append _ _ _)
    refl c.if-not-note_event.ensures

pub returns : goal.returns
returns c = λ number earlier clean.
    let items = c.args.drops.now in
    subst (λ (ds : List CertDrop). IsClean (taken c.args.intake.now) (key_at c.drops.keys) (earlier ++ drop_entries number ds))
    (take_all c.drops.dropped-index items (omega arith)) (c.drops.invariant.clean number earlier clean)
