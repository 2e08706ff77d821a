-- Blocks with their bytes, in the way in which packets are read.
use Rattle.std.specs.Prelude.{◌≡◌, ℕ, List, [], ◌∷◌, ◌++◌, length, map, Option, Some, Ok, option_map}
use Rattle.std.specs.List.{concat}
use Rattle.audit_pcapng.specs.declared.heading.Heading.{Heading}
use Rattle.audit_pcapng.specs.declared.packet.Packet.{Packet}
use Rattle.audit_pcapng.specs.declared.scope.Scope.{Scope}
use Rattle.audit_pcapng.specs.Headings.{heading}
use Rattle.audit_pcapng.specs.Blocks.{block}
use Rattle.prep_blocks.specs.declared.block.Block.{Block}
use Rattle.prep_blocks.specs.declared.block.PacketHead.{PacketHead}

-- the fields before a packet's bytes
abbrev pub head_of : Packet → PacketHead
head_of packet = record { stamp = packet.stamp; iface = packet.iface; captured = packet.captured; original = packet.original }

-- the bytes are a whole block of this kind and order, with this packet or none, and the next block
-- has this scope
pub record IsRead (scope : Scope) (whole : Block) (given : Option Packet) (after : Scope) : Type 0 where
  pub head : Heading
  pub shown : heading scope.order whole.bytes ≡ Ok (Some head)
  pub size : head.length ≡ length whole.bytes
  pub taken : block scope head whole.bytes ≡ Ok (after, given)
  pub kind : whole.kind ≡ head.kind
  pub order : whole.order ≡ head.order
  pub packet : whole.packet ≡ option_map head_of given

-- blocks one after another, and the scope after them
abbrev pub AreRead : Scope → List Block → Scope → Type 0
AreRead scope [] after = after ≡ scope
AreRead scope (first ∷ others) after = (given : Option Packet) × (next : Scope) × IsRead scope first given next × AreRead next others after

-- the bytes of blocks, put together
abbrev pub bytes_of : List Block → List ℕ
bytes_of blocks = concat (map (λ (b : Block). b.bytes) blocks)

-- bytes moved from the start of the piece to the kept ones
pub record Moves (held after piece rest : List ℕ) : Type 0 where
  pub taken : List ℕ
  pub cut : piece ≡ taken ++ rest
  pub grown : after ≡ held ++ taken

-- the kept bytes and bytes of the piece are a whole block, and the rest follows it
pub record Splits (scope : Scope) (held piece : List ℕ) (first : Block) (rest : List ℕ) (after : Scope) : Type 0 where
  pub given : Option Packet
  pub read : IsRead scope first given after
  pub moved : Moves held first.bytes piece rest
