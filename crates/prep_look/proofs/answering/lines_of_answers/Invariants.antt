use Rattle.std.proofs.Common.{◌≡◌, ◌++◌, string_bytes}
use Rattle.std.specs.List.{flat_map}
use Rattle.prep_look.specs.PolicyLines.{answer_line}
use Rattle.prep_look.proofs.answering.lines_of_answers.Given as goal

-- the lines so far and those of what is left are all of them
abbrev pub invariant-loop-addr : goal.invariant-loop-addr
invariant-loop-addr l =
    (goal.iterator-loop-addr).can_next l.addr-iterator
    × (goal.iterator-loop-addr).is_finite l.addr-iterator
    × (string_bytes l.text ++ flat_map (λ entry. answer_line l.policy entry.0 entry.1) l.addr-iterator ≡ flat_map (λ entry. answer_line l.policy entry.0 entry.1) l.answers.entries)
