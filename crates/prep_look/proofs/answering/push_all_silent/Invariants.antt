use Rattle.std.proofs.Common.{◌≡◌, ◌++◌, drop, string_bytes}
use Rattle.std.specs.List.{flat_map}
use Rattle.prep_look.specs.PolicyLines.{silent_line}
use Rattle.prep_look.proofs.answering.push_all_silent.Given as goal

-- the lines so far and those of what is left are all of them
abbrev pub invariant-loop-addr : goal.invariant-loop-addr
invariant-loop-addr l =
    string_bytes l.text ++ flat_map (silent_line l.answers.entries) (drop l.addr-index l.listen) ≡ string_bytes l.fn.text ++ flat_map (silent_line l.answers.entries) l.listen
