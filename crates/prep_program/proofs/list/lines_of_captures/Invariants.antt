use Rattle.std.proofs.Common.{◌≡◌, ◌++◌, drop, string_bytes}
use Rattle.prep_program.specs.ListText.{captures_text}
use Rattle.prep_program.proofs.list.lines_of_captures.Given as goal

-- the lines so far and those of what is left are all of them
abbrev pub invariant-loop-one : goal.invariant-loop-one
invariant-loop-one l = string_bytes l.text ++ captures_text l.number (drop l.one-index l.totals) ≡ captures_text 0 l.totals
