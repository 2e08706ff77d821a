use Rattle.std.proofs.Common.{ℕ, ◌+◌, ◌≤◌, List, length}
use Rattle.prep_blocks.specs.declared.block.Block.{Block}
use Rattle.prep_join.specs.Joined.{IsJoining, GoesOn}
use Rattle.prep_join.proofs.joiner.Joiner.feed.Given as goal

abbrev pub invariant-loop : goal.invariant-loop
invariant-loop l = (done : List (List Block)) (text : List ℕ) (current : List Block) → IsJoining l.fn.self done text current →
    GoesOn l.self done text current l.piece l.rest l.fn.out.items l.out.items × (length l.rest + l.counter ≤ length l.piece)
