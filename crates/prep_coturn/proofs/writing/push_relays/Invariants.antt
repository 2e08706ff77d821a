use Rattle.std.proofs.Common.{◌≡◌, ◌++◌, take, string_bytes}
use Rattle.std.specs.List.{flat_map}
use Rattle.prep_coturn.specs.PolicyLines.{relay_line}
use Rattle.prep_coturn.proofs.writing.push_relays.Given as goal

abbrev pub invariant-loop-range : goal.invariant-loop-range
invariant-loop-range l = string_bytes l.text ≡ string_bytes l.fn.text ++ flat_map relay_line (take l.range-index l.relays)
