use Rattle.std.proofs.Common.{◌≡◌, ◌-◌, ◌++◌, string_bytes}
use Rattle.prep_look.specs.PolicyLines.{granted_lines, granted_text}
use Rattle.prep_look.proofs.granting.lines_of_granted.Given as goal

-- the lines so far and those of what is left are all of them
abbrev pub invariant-loop : goal.invariant-loop
invariant-loop l = string_bytes l.text ++ granted_lines (l.end - l.counter) l.policy l.rest ≡ granted_text l.policy l.granted
