use Rattle.std.proofs.Common.{ℕ, ◌+◌, ◌≤◌, List, length}
use Rattle.prep_blocks.specs.declared.block.Block.{Block}
use Rattle.prep_fragments.specs.Reassembling.{IsReassembling, GoesOn}
use Rattle.prep_fragments.proofs.reassembler.Reassembler.feed.Given as goal

abbrev pub invariant-loop : goal.invariant-loop
invariant-loop l = (text : List ℕ) (blocks : List Block) → IsReassembling l.fn.self text blocks →
    GoesOn l.self text blocks l.piece l.rest l.fn.out.items l.out.items × (length l.rest + l.counter ≤ length l.piece)
