use Rattle.std.proofs.Common.{◌≡◌, ◌++◌, take, string_bytes}
use Rattle.std.specs.List.{flat_map}
use Rattle.prep_coturn.specs.PolicyLines.{listen_line}
use Rattle.prep_coturn.proofs.writing.push_listens.Given as goal

abbrev pub invariant-loop-addr : goal.invariant-loop-addr
invariant-loop-addr l = string_bytes l.text ≡ string_bytes l.fn.text ++ flat_map listen_line (take l.addr-index l.listens)
