use Rattle.std.proofs.Common.{arith, Some}
use Rattle.audit_placement.proofs.PieceSteps.{none_left, piece_more}
use Rattle.audit_placement.proofs.pieces.add_lane.Goals as goal

pub parts-preserved : goal.parts-preserved
parts-preserved c = λ taken.
    piece_more taken (Some c.args.pair) _ _ _ _ _ c.parts.last _ _ _ _ (c.parts.invariant taken) c.in_ok-push.ensures.items (λ own. own) c.parted.ensures.whole c.last_key-last.ensures

pub returns : goal.returns
returns c = λ taken all.
    let both = c.parts.invariant taken all in
    (both.0, both.1 (none_left taken (Some c.args.pair) c.parts.last c.parts.rest.now (λ some. omega arith)))
