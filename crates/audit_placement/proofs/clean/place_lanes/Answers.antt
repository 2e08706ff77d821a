use Rattle.std.proofs.Common.{List, arith, subst, sym, take}
use Rattle.std.proofs.lemmas.List.{take_all}
use Rattle.audit_model.specs.declared.certificate.CertLane.{CertLane}
use Rattle.audit_placement.specs.Clean.{IsClean}
use Rattle.audit_placement.specs.Entries.{lanes_entries}
use Rattle.audit_placement.specs.Keys.{key_at}
use Rattle.audit_placement.specs.Pieces.{LaneBreaksNoRule}
use Rattle.audit_placement.proofs.Turns.{lanes_more}
use Rattle.audit_placement.proofs.clean.place_lanes.Goals as goal

pub lanes-preserved : goal.lanes-preserved
lanes-preserved c = λ taken held empty.
    let items = c.args.lanes.now in
    let i = c.lanes.lane-index in
    let lane = c.lane-item.result in
    let own = subst (LaneBreaksNoRule taken) (sym c.lane-item.is) (held i lane (omega arith)) in
    subst (IsClean taken (key_at c.place_lane.new.keys)) (sym (lanes_more items i lane (omega arith) c.lane-item.is))
    (c.if-not-place_lane.ensures taken i (lanes_entries 0 (take i items)) own (c.lanes.invariant taken held empty))

pub returns : goal.returns
returns c = λ taken held empty.
    subst (λ (ls : List CertLane). IsClean taken (key_at c.lanes.keys) (lanes_entries 0 ls)) (take_all c.lanes.lane-index c.args.lanes.now (omega arith))
    (c.lanes.invariant taken held empty)
