use Rattle.std.proofs.Common.{◌≡◌, ◌<◌, ℕ, List, [], Some, take}
use Rattle.prep_blocks.specs.declared.block.Block.{Block}
use Rattle.prep_join.specs.Joined.{IsJoining}
use Rattle.prep_program.specs.Joins.{SoFar}
use Rattle.prep_program.proofs.joining.join_capture.Given as goal

-- the joiner was fed the bytes up to the offset, and what is joined of them is written
abbrev pub invariant-pieces : goal.invariant-pieces
invariant-pieces g l = record {
  room : 0 < l.piece.len;
  same : g.S.Source.holds l.source ≡ g.S.Source.holds l.fn.source;
  empty : l.out.items ≡ [];
  fed : (text : List ℕ) (done : List (List Block)) → g.S.Source.holds l.fn.source l.fn.name ≡ Some text → IsJoining l.fn.joiner done [] []
      → SoFar l.joiner done (take l.at text) (g.M.Sink.taken l.fn.made) (g.M.Sink.taken l.made);
}
