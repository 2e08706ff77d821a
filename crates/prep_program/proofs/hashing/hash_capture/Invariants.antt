use Rattle.std.proofs.Common.{◌≡◌, ◌<◌, ℕ, List, Some, take}
use Rattle.sha2.specs.Hashers.{Holds256}
use Rattle.prep_program.proofs.hashing.hash_capture.Given as goal

-- the hasher was fed the bytes up to the offset
abbrev pub invariant-pieces : goal.invariant-pieces
invariant-pieces g l = record {
  room : 0 < l.piece.len;
  same : g.S.Source.holds l.source ≡ g.S.Source.holds l.fn.source;
  fed : (text : List ℕ) → g.S.Source.holds l.fn.source l.fn.name ≡ Some text → Holds256 l.hasher (take l.at text);
}
