-- Which clients send anything to the service.
use Rattle.std.specs.Prelude.{◌≡◌, ◌⊎◌, Bool, true, List, [], ◌∷◌, Option, Some, None}
use Rattle.std.specs.BTreeSet.{contains}
use Rattle.audit_model.specs.declared.address.Addr.{Addr}
use Rattle.audit_model.specs.declared.policy.Policy.{Policy}
use Rattle.audit_model.specs.declared.sighting.Side.TheVariants.{Arrives}
use Rattle.audit_model.specs.LanePairs.{pair_cmp}
use Rattle.prep_blocks.specs.declared.block.Block.{Block}
use Rattle.prep_cut.specs.declared.allocations.Allocations.{Allocations}
use Rattle.prep_cut.specs.declared.datagram.Datagram.{Datagram}
use Rattle.prep_cut.specs.Datagrams.{datagram_of_block}

-- the datagram arrives from the client at this listen address
abbrev pub Sends : Addr → Addr → Option Datagram → Type 0
Sends client listen None = ⊥
Sends client listen (Some datagram) = (datagram.side ≡ Arrives) × (datagram.from ≡ client) × (datagram.to ≡ listen)

-- the block's packet is such a datagram
abbrev pub SendsIn : Policy → Addr → Addr → Block → Type 0
SendsIn policy client listen block = Sends client listen (datagram_of_block policy block)

-- the client is recorded as a sender to this listen address
abbrev pub is_sender : Allocations → Addr → Addr → Bool
is_sender allocations client listen = contains pair_cmp allocations.senders (client, listen)

-- one of these blocks has a datagram from the client to this listen address
abbrev pub IsSentIn : Policy → Addr → Addr → List Block → Type 0
IsSentIn policy client listen [] = ⊥
IsSentIn policy client listen (first ∷ others) = SendsIn policy client listen first ⊎ IsSentIn policy client listen others

-- each recorded client sends something in one of these blocks
abbrev pub AreSenders : Policy → Allocations → List Block → Type 0
AreSenders policy allocations blocks = (client listen : Addr) → is_sender allocations client listen ≡ true → IsSentIn policy client listen blocks
