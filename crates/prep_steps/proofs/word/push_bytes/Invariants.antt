use Rattle.std.proofs.Common.{◌≡◌, ◌++◌, drop}
use Rattle.prep_steps.specs.Shell.{quoted_bytes}
use Rattle.prep_steps.proofs.word.push_bytes.Given as goal

-- what was appended so far and what is left are all
abbrev pub invariant-loop-byte : goal.invariant-loop-byte
invariant-loop-byte l = l.text.items ++ quoted_bytes (drop l.byte-index l.word) ≡ l.fn.text.items ++ quoted_bytes l.word
