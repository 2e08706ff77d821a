use Rattle.std.proofs.Common.{List, ◌∙◌, subst, arith}
use Rattle.std.proofs.lemmas.List.{take_all}
use Rattle.audit_model.specs.declared.certificate.CertLane.{CertLane}
use Rattle.audit_model.specs.Least.{IsLeast}
use Rattle.audit_sightings.specs.Intake.{taken}
use Rattle.audit_placement.specs.Cuts.{ShowsCutIn}
use Rattle.audit_placement.specs.Entries.{lanes_entries}
use Rattle.audit_placement.proofs.CutSteps.{cut_lane}
use Rattle.audit_placement.proofs.cuts.lanes_cut.Goals as goal

pub lanes-preserved : goal.lanes-preserved
lanes-preserved c =
    let items = c.as_slice-lane-items.result.now in
    cut_lane (taken c.args.intake.now) c.args.certificate.now.skews items c.lanes.number c.lane-item.result _ _ _ (omega arith) c.lane-item.is
    c.lanes.invariant c.lane_cut-found.ensures c.least-least.ensures

pub returns : goal.returns
returns c =
    let items = c.as_slice-lane-items.result.now in
    subst (λ (lanes : List CertLane). IsLeast (ShowsCutIn (taken c.args.intake.now) c.args.certificate.now.skews (lanes_entries 0 lanes)) c.lanes.least)
    (take_all c.lanes.number items (omega arith) ∙ c.as_slice-lane-items.ensures) c.lanes.invariant
