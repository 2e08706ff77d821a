use Rattle.std.proofs.Common.{◌≡◌, ◌++◌, drop, string_bytes}
use Rattle.prep_program.specs.ListText.{lines_text}
use Rattle.prep_program.proofs.list.lines_of.Given as goal

-- the lines so far and those of what is left are all of them
abbrev pub invariant-loop-reason : goal.invariant-loop-reason
invariant-loop-reason l = string_bytes l.text ++ lines_text (drop l.reason-index l.lines) l.rest ≡ lines_text l.lines l.tallies
