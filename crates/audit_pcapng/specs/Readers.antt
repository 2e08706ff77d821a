-- The bytes that a reader has read, and the effect of feeding it.
use Rattle.std.specs.Prelude.{◌≡◌, ◌≢◌, ℕ, true, false, List, ◌++◌}
use Rattle.audit_pcapng.specs.declared.packet.Packet.{Packet}
use Rattle.audit_pcapng.specs.declared.reader.BlockReader.{BlockReader}
use Rattle.audit_pcapng.specs.declared.fault.CaptureFault.{CaptureFault}
use Rattle.audit_pcapng.specs.declared.fault.CaptureFault.TheVariants.{Memory}
use Rattle.audit_pcapng.specs.Captures.{Reads, BeginsWith, FirstFault}

-- the reader read this text and returned these packets, which are the text's; it keeps the block
-- that is not yet whole
abbrev pub StandsFor : BlockReader → List ℕ → List Packet → Type 0
StandsFor reader text packets = (reader.failed ≡ false) × Reads text packets reader.scope reader.held.items

-- the reader met a fault before
abbrev pub IsFailed : BlockReader → Type 0
IsFailed reader = reader.failed ≡ true

-- The reader has read the text with the piece, and the further packets of this text were added.
pub record GoesOn (reader : BlockReader) (text : List ℕ) (packets before after : List Packet) : Type 0 where
  pub more : List Packet
  pub stands : StandsFor reader text (packets ++ more)
  pub added : after ≡ before ++ more

-- The fault is the text's first one, and the packets before it were added. If memory ran out, some
-- of the text's new packets were added, from the first one on.
pub record Refuses (text : List ℕ) (packets before after : List Packet) (fault : CaptureFault) : Type 0 where
  pub more : List Packet
  pub first : fault ≢ Memory → FirstFault text (packets ++ more) fault
  pub begins : BeginsWith text (packets ++ more)
  pub added : after ≡ before ++ more
