use Rattle.std.proofs.Common.{◌≡◌, ◌<◌, ◌≤◌, ℕ, List, Some, length, take, vec_len}
use Rattle.audit_sightings.specs.Files.{Fed, GoesOn, StandsFor}
use Rattle.audit_files.proofs.captures.feed_capture.Given as goal

-- the intake was fed the bytes up to the offset, one at least in each turn
abbrev pub invariant-pieces : goal.invariant-pieces
invariant-pieces g l = record {
  room : 0 < l.piece.len;
  same : g.S.Source.holds l.source ≡ g.S.Source.holds l.fn.source;
  steady : g.S.Source.may_fail l.source ≡ g.S.Source.may_fail l.fn.source;
  count : vec_len l.intake.files ≡ vec_len l.fn.intake.files;
  policy : l.intake.policy ≡ l.fn.intake.policy;
  read : l.counter ≤ l.at;
  within : (bytes : List ℕ) → g.S.Source.holds l.fn.source l.fn.name ≡ Some bytes → l.at ≤ length bytes;
  fed : (bytes : List ℕ) (files : List Fed) → g.S.Source.holds l.fn.source l.fn.name ≡ Some bytes → StandsFor l.fn.intake files
      → GoesOn l.intake files l.fn.file (take l.at bytes);
}
