use Rattle.std.proofs.Common.{◌≡◌, ◌<◌, ℕ, List, Some, take}
use Rattle.prep_program.proofs.text.read_checked.Given as goal

-- the bytes up to the offset are read
abbrev pub invariant-pieces : goal.invariant-pieces
invariant-pieces g l = record {
  room : 0 < l.piece.len;
  same : g.S.Source.holds l.source ≡ g.S.Source.holds l.fn.source;
  fed : (bytes : List ℕ) → g.S.Source.holds l.fn.source l.fn.name ≡ Some bytes → l.text.items ≡ take l.at bytes;
}
