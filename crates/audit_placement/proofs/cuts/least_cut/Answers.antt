use Rattle.std.proofs.Common.{length, sym, ◌∙◌, subst}
use Rattle.std.proofs.lemmas.Bool.{eqb-true}
use Rattle.std.proofs.lemmas.List.{nil_from_length}
use Rattle.audit_model.specs.Least.{IsLeast}
use Rattle.audit_sightings.specs.Intake.{taken}
use Rattle.audit_placement.specs.Cuts.{ShowsCut}
use Rattle.audit_placement.specs.Entries.{drop_entries, lanes_entries}
use Rattle.audit_placement.proofs.CutSteps.{cut_append, none_cut}
use Rattle.audit_placement.proofs.cuts.least_cut.Goals as goal

pub returns-then-is_empty : goal.returns-then-is_empty
returns-then-is_empty c =
    let certificate = c.args.certificate.now in
    none_cut (taken c.args.intake.now) certificate (nil_from_length certificate.skews (eqb-true _ _ (sym c.is_empty.ensures ∙ c.if-is_empty.true)))

pub returns : goal.returns
returns c =
    let certificate = c.args.certificate.now in
    subst (IsLeast (ShowsCut (taken c.args.intake.now) certificate)) (sym c.least.ensures)
    (cut_append (taken c.args.intake.now) certificate.skews (lanes_entries 0 certificate.lanes) (drop_entries (length certificate.lanes) certificate.drops) _ _
    c.lanes_cut-of_lanes.ensures c.drops_cut-of_drops.ensures)
