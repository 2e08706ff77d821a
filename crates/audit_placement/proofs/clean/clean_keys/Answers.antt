use Rattle.std.proofs.Common.{List, ◌++◌, ◌∙◌, length, subst}
use Rattle.audit_model.specs.declared.certificate.CertDrop.{CertDrop}
use Rattle.audit_model.specs.declared.certificate.CertLane.{CertLane}
use Rattle.audit_sightings.specs.Intake.{taken}
use Rattle.audit_placement.specs.Clean.{IsClean}
use Rattle.audit_placement.specs.Entries.{lanes_entries, drop_entries}
use Rattle.audit_placement.specs.Keys.{key_at}
use Rattle.audit_placement.proofs.CleanTurns.{clean_none}
use Rattle.audit_placement.proofs.clean.clean_keys.Goals as goal

pub returns : goal.returns
returns c =
    let lanes = c.args.certificate.now.lanes in
    let none = clean_none (taken c.args.intake.now) (key_at c.grow.new.self) (λ sight. c.in_ok-grow.ensures sight ∙ c.new-keys.ensures sight) in
    let of_lanes = subst (λ (ls : List CertLane). IsClean (taken c.args.intake.now) (key_at c.note_lanes.new.keys) (lanes_entries 0 ls)) c.as_slice.ensures
    (c.if-not-note_lanes.ensures none) in
    subst (λ (ds : List CertDrop). IsClean (taken c.args.intake.now) (key_at c.note_drops.new.keys) (lanes_entries 0 lanes ++ drop_entries (length lanes) ds))
    c.as_slice-2.ensures (c.if-not-note_drops.ensures (length lanes) (lanes_entries 0 lanes) of_lanes)
