use Rattle.std.proofs.Common.{All, subst}
use Rattle.audit_sightings.specs.Intake.{taken}
use Rattle.audit_placement.specs.Pieces.{LaneBreaksNoRule, PieceBreaksNoRule}
use Rattle.audit_placement.proofs.PieceSteps.{on_true}
use Rattle.audit_placement.proofs.lane_rules.lanes_break_no_rule.Goals as goal

pub returns : goal.returns
returns g c =
    let t = taken c.args.intake.now in
    on_true c.pieces_break_no_rule.result (All (PieceBreaksNoRule t) c.as_slice.result.now) (All (LaneBreaksNoRule t) c.args.lanes.now)
    (λ held. c.in_ok-pieces.ensures t (subst (All (PieceBreaksNoRule t)) c.as_slice.ensures.value held)) c.pieces_break_no_rule.ensures
