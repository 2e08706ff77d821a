use Rattle.std.proofs.Common.{List, Some, None, arith, subst}
use Rattle.std.proofs.lemmas.List.Elements.{All-more}
use Rattle.audit_model.specs.declared.event.Event.{Event}
use Rattle.audit_placement.specs.Pieces.{BreakNoRule, LaneBreaksNoRule}
use Rattle.audit_placement.proofs.pieces.pieces_of.Goals as goal

pub lanes-preserved : goal.lanes-preserved
lanes-preserved c = λ taken all.
    let items = c.args.lanes.now in
    let i = c.lanes.lane-index in
    let lane = c.lane-item.result in
    let both = c.in_ok-add_lane.ensures taken all in
    let own = subst (λ (es : List Event). BreakNoRule taken (Some (record { client = lane.client; listen = lane.listen })) None es) c.as_slice.ensures both.1 in
    All-more (LaneBreaksNoRule taken) items i lane (omega arith) (c.lanes.invariant taken both.0) (subst (LaneBreaksNoRule taken) c.lane-item.is own)
