-- A reader in the middle of a piece.
use Rattle.std.specs.Prelude.{◌≡◌, ◌≢◌, ◌⊎◌, ℕ, false, List, [], ◌∷◌, ◌++◌}
use Rattle.audit_pcapng.specs.declared.packet.Packet.{Packet}
use Rattle.audit_pcapng.specs.declared.packet.PacketSlice.{PacketSlice}
use Rattle.audit_pcapng.specs.declared.reader.BlockReader.{BlockReader}
use Rattle.audit_pcapng.specs.declared.fault.CaptureFault.{CaptureFault}
use Rattle.audit_pcapng.specs.declared.fault.CaptureFault.TheVariants.{Memory}
use Rattle.audit_pcapng.specs.Sections.{no_blocks}
use Rattle.audit_pcapng.specs.Captures.{Front, IsCut, FirstFault}
use Rattle.audit_pcapng.specs.Packets.{packet_of}

-- The text begins with blocks that have these packets. The bytes that are held and the rest of the
-- text follow, one of which is empty.
pub record IsAt (reader : BlockReader) (text : List ℕ) (packets : List Packet) (rest : List ℕ) : Type 0 where
  pub sound : reader.failed ≡ false
  pub front : Front no_blocks text packets reader.scope (reader.held.items ++ rest)
  pub either : (reader.held.items ≡ []) ⊎ ((rest ≡ []) × IsCut reader.scope reader.held.items)

-- the block that was held is whole, or all of the piece is held
pub record Begins (reader : BlockReader) (text : List ℕ) (packets before after : List Packet) (rest : List ℕ) : Type 0 where
  pub more : List Packet
  pub at : IsAt reader text (packets ++ more) rest
  pub added : after ≡ before ++ more

-- one more packet
abbrev pub Gave : BlockReader → List ℕ → List Packet → PacketSlice → List ℕ → Type 0
Gave reader text packets slice rest = IsAt reader text (packets ++ packet_of slice ∷ []) rest

-- the text has this first fault after these packets, or memory ran out
abbrev pub EndsBy : List ℕ → List Packet → CaptureFault → Type 0
EndsBy text packets fault = fault ≢ Memory → FirstFault text packets fault
