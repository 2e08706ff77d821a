use Rattle.std.proofs.Common.{◌≡◌, ◌<◌, ℕ, List, [], Some, take}
use Rattle.prep_program.specs.Reassemblies.{ReassemblesSoFar}
use Rattle.prep_program.proofs.reassembling.reassemble_capture.Given as goal

-- the reassembler was fed the bytes up to the offset, and what is put together of them is written
abbrev pub invariant-pieces : goal.invariant-pieces
invariant-pieces g l = record {
  room : 0 < l.piece.len;
  same : g.S.Source.holds l.source ≡ g.S.Source.holds l.fn.source;
  empty : l.out.items ≡ [];
  fed : (text : List ℕ) → g.S.Source.holds l.fn.source l.fn.name ≡ Some text → ReassemblesSoFar l.reassembler (take l.at text) (g.M.Sink.taken l.fn.made) (g.M.Sink.taken l.made);
}
