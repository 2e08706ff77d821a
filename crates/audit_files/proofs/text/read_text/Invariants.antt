use Rattle.std.proofs.Common.{◌≡◌, ◌<◌, ◌≤◌, ℕ, [], List, Some, length, take}
use Rattle.audit_files.proofs.text.read_text.Given as goal

-- the reader was fed the bytes up to the offset, a byte at least in each turn
abbrev pub invariant-pieces : goal.invariant-pieces
invariant-pieces g l = record {
  room : 0 < l.piece.len;
  same : g.S.Source.holds l.source ≡ g.S.Source.holds l.fn.source;
  steady : g.S.Source.may_fail l.source ≡ g.S.Source.may_fail l.fn.source;
  read : l.counter ≤ l.at;
  within : (bytes : List ℕ) → g.S.Source.holds l.fn.source l.fn.name ≡ Some bytes → l.at ≤ length bytes;
  fed : (bytes : List ℕ) → g.S.Source.holds l.fn.source l.fn.name ≡ Some bytes → g.R.TextReading.stands l.fn.reader []
      → g.R.TextReading.stands l.reader (take l.at bytes);
}
