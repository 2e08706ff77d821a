use Rattle.std.proofs.Common.{◌≡◌, ◌<◌, ℕ, List, [], Some, take}
use Rattle.prep_program.specs.Translations.{TranslatesSoFar}
use Rattle.prep_program.proofs.translating.translate_capture.Given as goal

-- the translator was fed the bytes up to the offset, and what is translated of them is written
abbrev pub invariant-pieces : goal.invariant-pieces
invariant-pieces g l = record {
  room : 0 < l.piece.len;
  same : g.S.Source.holds l.source ≡ g.S.Source.holds l.fn.source;
  empty : l.out.items ≡ [];
  fed : (text : List ℕ) → g.S.Source.holds l.fn.source l.fn.name ≡ Some text → TranslatesSoFar l.renaming l.translator (take l.at text) (g.M.Sink.taken l.fn.made) (g.M.Sink.taken l.made);
}
