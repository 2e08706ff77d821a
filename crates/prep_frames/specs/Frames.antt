-- The frame of a block.
use Rattle.std.specs.Prelude.{ℕ, List, take, drop, nat_lt}
use Rattle.audit_packets.specs.Reading.{Datagram, datagram_of}
use Rattle.prep_blocks.specs.declared.block.Block.{Block}
use Rattle.prep_blocks.specs.declared.block.PacketHead.{PacketHead}

-- the captured bytes of a packet's block (draft-ietf-opsawg-pcapng, section 4.3)
abbrev pub frame_in : Block → PacketHead → List ℕ
frame_in block head = take head.captured (drop 28 block.bytes)

-- their content
abbrev pub seen_in : List ℕ → PacketHead → Datagram
seen_in frame head = datagram_of frame (nat_lt head.captured head.original)
