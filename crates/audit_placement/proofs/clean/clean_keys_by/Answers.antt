use Rattle.std.proofs.Common.{All, List, [], ◌++◌, ◌∙◌, length, subst}
use Rattle.std.specs.Prelude.{IfOk}
use Rattle.std.specs.Bool.{OnTrue}
use Rattle.audit_model.specs.declared.certificate.CertDrop.{CertDrop}
use Rattle.audit_model.specs.declared.certificate.CertLane.{CertLane}
use Rattle.audit_sightings.specs.Intake.{taken}
use Rattle.audit_placement.specs.Clean.{IsClean}
use Rattle.audit_placement.specs.Entries.{lanes_entries, drop_entries}
use Rattle.audit_placement.specs.Keys.{key_at}
use Rattle.audit_placement.specs.Pieces.{LaneBreaksNoRule}
use Rattle.audit_placement.proofs.CleanTurns.{clean_none}
use Rattle.audit_placement.proofs.PieceSteps.{of_set}
use Rattle.audit_placement.proofs.clean.clean_keys_by.Goals as goal

pub returns : goal.returns
returns g c =
    let t = taken c.args.intake.now in
    let lanes = c.args.certificate.now.lanes in
    let told = subst (λ o. IfOk o (λ b. OnTrue b (All (LaneBreaksNoRule t) c.as_slice.result.now))) c.in-Ok.is c.lanes_break_no_rule-asked.ensures in
    let fine = of_set _ (All (LaneBreaksNoRule t) c.as_slice.result.now) c.if-not-fine.false told in
    let all = subst (All (LaneBreaksNoRule t)) c.as_slice.ensures fine in
    let none = clean_none t (key_at c.grow.new.self) (λ sight. c.in_ok-grow.ensures sight ∙ c.new-keys.ensures sight) in
    let of_lanes = subst (λ (ls : List CertLane). All (LaneBreaksNoRule t) ls → IsClean t (key_at c.grow.new.self) [] → IsClean t (key_at c.place_lanes.new.keys) (lanes_entries 0 ls))
    c.as_slice-2.ensures (c.if-not-place_lanes.ensures t) all none in
    subst (λ (ds : List CertDrop). IsClean t (key_at c.note_drops.new.keys) (lanes_entries 0 lanes ++ drop_entries (length lanes) ds))
    c.as_slice-3.ensures (c.if-not-note_drops.ensures (length lanes) (lanes_entries 0 lanes) of_lanes)
