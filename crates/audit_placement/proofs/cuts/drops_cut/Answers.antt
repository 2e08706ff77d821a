use Rattle.std.proofs.Common.{ℕ, List, take, map, length, ◌<◌, refl, ap, ◌∙◌, ◌∷◌, [], subst, arith, length-take}
use Rattle.std.proofs.lemmas.List.{take_all, take_more, length-map, map-append}
use Rattle.audit_model.specs.declared.certificate.CertDrop.{CertDrop}
use Rattle.audit_model.specs.Least.{IsLeast}
use Rattle.audit_sightings.specs.Intake.{taken}
use Rattle.audit_placement.specs.Cuts.{ShowsCutIn}
use Rattle.audit_placement.specs.Entries.{arrival_of, drop_entries}
use Rattle.audit_placement.proofs.CutSteps.{cut_push}
use Rattle.audit_placement.proofs.cuts.drops_cut.Goals as goal

pub drops-preserved : goal.drops-preserved
drops-preserved c =
    let drops = c.as_slice-drops.result.now in
    let place = c.drops.place in
    cut_push (taken c.args.intake.now) c.args.certificate.now.skews _ c.len-lane.result place (map arrival_of (take place drops)) _ _ _ _ _ _ c.drops.invariant
    (omega (arith, length-take place drops, length-map (take place drops) arrival_of))
    (ap (map arrival_of) (take_more drops place _ (omega arith)) ∙ map-append arrival_of (take place drops) (_ ∷ []))
    refl c.cut_at-found.ensures c.least-least.ensures

pub returns : goal.returns
returns c =
    let drops = c.as_slice-drops.result.now in
    subst (λ (ds : List CertDrop). IsLeast (ShowsCutIn (taken c.args.intake.now) c.args.certificate.now.skews (drop_entries (length c.args.certificate.now.lanes) ds)) c.drops.least)
    (take_all c.drops.place drops (omega arith) ∙ c.as_slice-drops.ensures)
    (subst (λ (n : ℕ). IsLeast (ShowsCutIn (taken c.args.intake.now) c.args.certificate.now.skews (drop_entries n (take c.drops.place drops))) c.drops.least) c.len-lane.ensures c.drops.invariant)
