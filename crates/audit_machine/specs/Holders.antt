-- The clients that have relayed addresses, as contracts see them.
use Rattle.std.specs.Prelude.{Option}
use Rattle.std.specs.BTreeMap.{get}
use Rattle.audit_model.specs.declared.address.Addr.{Addr}
use Rattle.audit_model.specs.declared.pair.Pair.{Pair}
use Rattle.audit_model.specs.LanePairs.{addr_cmp}
use Rattle.audit_machine.specs.declared.holders.Holders.{Holders}

-- the client that the address was granted to last
abbrev pub holder_of : Holders → Addr → Option Pair
holder_of holders relayed = get addr_cmp holders.holders relayed
