-- Blocks on the outer side.
use Rattle.std.specs.Prelude.{◌≡◌, ℕ, ◌+◌, ◌<◌, slice_index, true, false, List, take, drop, ◌++◌, Option, Some, None, ◌&&◌}
use Rattle.std.specs.Int.{w32, to_be_bytes}
use Rattle.audit_model.specs.declared.address.Addr.{Addr}
use Rattle.audit_packets.specs.Frame.{ethernet_length}
use Rattle.audit_packets.specs.Reading.{Datagram}
use Rattle.audit_packets.specs.Reading as seen
use Rattle.audit_packets.specs.Spelled.{HoldsUdp}
use Rattle.prep_blocks.specs.declared.block.Block.{Block}
use Rattle.prep_blocks.specs.declared.block.PacketHead.{PacketHead}
use Rattle.prep_frames.specs.Frames.{frame_in, seen_in}
use Rattle.prep_translate.specs.declared.renaming.Renaming.{Renaming}
use Rattle.prep_translate.specs.declared.tally.Moved.{Moved}
use Rattle.prep_translate.specs.declared.fault.Untranslatable.{Untranslatable}
use Rattle.prep_translate.specs.Renaming.{outer_of, or_same, renamed, is_service, fault_of}

-- an end of a datagram is translated
abbrev pub moved_to : Renaming → Addr → Addr → Option Addr → Option Addr → Option Moved
moved_to renaming from to None None = None
moved_to renaming from to (Some outer) other = Some (record { is_out = true; is_inside = is_service renaming.policy outer && is_service renaming.policy (or_same to other); ends = record { from = outer; to = or_same to other } })
moved_to renaming from to None (Some outer) = Some (record { is_out = false; is_inside = is_service renaming.policy from && is_service renaming.policy outer; ends = record { from = from; to = outer } })

abbrev pub moved_by : Renaming → Addr → Addr → Option Moved
moved_by renaming from to = moved_to renaming from to (outer_of renaming from) (outer_of renaming to)

abbrev pub moved_of : Renaming → Datagram → Option Moved
moved_of renaming (seen.Udp from to payload) = moved_by renaming from to
moved_of renaming seen.Other = None
moved_of renaming (seen.Fragment from to) = None
moved_of renaming (seen.Cut ips) = None

-- other addresses at an offset of an IPv4 header
abbrev pub with_ips : ℕ → ℕ → ℕ → List ℕ → List ℕ
with_ips at from to bytes = take at bytes ++ to_be_bytes w32 from ++ to_be_bytes w32 to ++ drop (at + 8) bytes

abbrev pub turned : List ℕ → List ℕ → Option Moved → List ℕ
turned bytes frame None = bytes
turned bytes frame (Some moved) = with_ips (28 + ethernet_length frame + 12) moved.ends.from.ip moved.ends.to.ip bytes

abbrev pub moved_at : Renaming → Block → Option PacketHead → Option Moved
moved_at renaming block None = None
moved_at renaming block (Some head) = moved_of renaming (seen_in (frame_in block head) head)

-- the translation of a block's datagram
abbrev pub moved_in : Renaming → Block → Option Moved
moved_in renaming block = moved_at renaming block block.packet

abbrev pub written_at : Renaming → Block → Option PacketHead → List ℕ
written_at renaming block None = block.bytes
written_at renaming block (Some head) = turned block.bytes (frame_in block head) (moved_of renaming (seen_in (frame_in block head) head))

-- the output for a block
abbrev pub written_of : Renaming → Block → List ℕ
written_of renaming block = written_at renaming block block.packet

abbrev pub fault_at : Renaming → Block → Option PacketHead → Option Untranslatable
fault_at renaming block None = None
fault_at renaming block (Some head) = fault_of renaming (seen_in (frame_in block head) head)

-- why a block is refused
abbrev pub fault_in : Renaming → Block → Option Untranslatable
fault_in renaming block = fault_at renaming block block.packet

-- A datagram's block is written with its addresses translated. The bytes before, between and after
-- the four bytes of each are unchanged, and the frame then contains the same payload from and to
-- the translated addresses.
pub record IsRenamed (renaming : Renaming) (head : PacketHead) (read written : List ℕ) (from to : Addr) (payload : List ℕ) : Type 0 where
  pub front : List ℕ
  pub behind : List ℕ
  pub was : read ≡ front ++ to_be_bytes w32 from.ip ++ to_be_bytes w32 to.ip ++ behind
  pub is : written ≡ front ++ to_be_bytes w32 (renamed renaming from).ip ++ to_be_bytes w32 (renamed renaming to).ip ++ behind
  pub holds : HoldsUdp (take head.captured (drop 28 written)) (renamed renaming from) (renamed renaming to) payload

-- no packet, or a packet without a UDP datagram
abbrev pub IsNoDatagram : Block → Type 0
IsNoDatagram block = (head : PacketHead) (from to : Addr) (payload : List ℕ) → block.packet ≡ Some head → HoldsUdp (frame_in block head) from to payload → ⊥

abbrev pub AreBytes : List ℕ → Type 0
AreBytes bytes = (i : ℕ) → slice_index bytes i < 256
