use Rattle.std.proofs.Common.{ℕ, ◌+◌, ◌≤◌, List, length}
use Rattle.prep_blocks.specs.declared.block.Block.{Block}
use Rattle.prep_cut.specs.declared.plan.Plan.{Plan}
use Rattle.prep_cut.specs.declared.plan.Proposal.{Proposal}
use Rattle.prep_cut.specs.Marks.{Marked}
use Rattle.prep_cut.specs.Cutting.{IsCutting, GoesOn}
use Rattle.prep_cut.proofs.cutter.Cutter.feed.Given as goal

abbrev pub invariant-loop : goal.invariant-loop
invariant-loop l = (plan : Plan) (proposals : List Proposal) (earlier : List Marked) (text : List ℕ) (current : List Block) → IsCutting l.fn.self plan proposals earlier text current →
    GoesOn l.self plan proposals earlier text current l.piece l.rest l.fn.out.items l.out.items × (length l.rest + l.counter ≤ length l.piece)
