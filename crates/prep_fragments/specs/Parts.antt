-- Fragments of UDP datagrams over IPv4 (RFC 791, section 3.1), by the offsets in their frames.
use Rattle.std.specs.Prelude.{◌≡◌, ℕ, ◌+◌, ◌-◌, ◌*◌, ◌/◌, ◌%◌, Bool, ◌==◌, List, [], ◌∷◌, ◌++◌, length, take, drop, Option, Some, None, slice_index}
use Rattle.std.specs.declared.cmp.Ordering.{Ordering}
use Rattle.std.specs.Ordering.{nat_cmp, ordering_then, is_eq}
use Rattle.audit_packets.specs.Frame.{number, long_number, ethernet_length}
use Rattle.audit_packets.specs.Reading.{Datagram}
use Rattle.audit_packets.specs.Reading as seen
use Rattle.prep_blocks.specs.declared.block.Block.{Block}
use Rattle.prep_blocks.specs.declared.block.PacketHead.{PacketHead}
use Rattle.prep_frames.specs.Frames.{frame_in, seen_in}
use Rattle.prep_fragments.specs.declared.fragment.Key.{Key}
use Rattle.prep_fragments.specs.declared.fragment.Fragment.{Fragment}

-- bytes from one offset to another
abbrev pub between : ℕ → ℕ → List ℕ → List ℕ
between from to bytes = take (to - from) (drop from bytes)

-- the end of the IPv4 header whose first byte is at this offset
abbrev pub header_end : List ℕ → ℕ → ℕ
header_end frame at = at + slice_index frame at % 16 * 4

-- the datagram, by interface, source, destination and identification; the offset of the fragment's
-- data in the datagram's data, in units of eight bytes; the flag "more fragments"; and the start
-- and the end of the data in the frame
abbrev pub fragment_of : ℕ → List ℕ → Fragment
fragment_of iface frame =
    let at = ethernet_length frame in
    record {
      key = record { iface = iface; from = long_number frame (at + 12); to = long_number frame (at + 16); id = number frame (at + 4) };
      offset = number frame (at + 6) % 8192 * 8;
      has_more = number frame (at + 6) / 8192 % 2 == 1;
      begin = header_end frame at;
      end = at + number frame (at + 2);
    }

abbrev pub part_by : ℕ → List ℕ → Datagram → Option Fragment
part_by iface frame (seen.Udp from to payload) = None
part_by iface frame seen.Other = None
part_by iface frame (seen.Fragment from to) = Some (fragment_of iface frame)
part_by iface frame (seen.Cut ips) = None

abbrev pub part_at : Block → Option PacketHead → Option Fragment
part_at block None = None
part_at block (Some head) = part_by head.iface (frame_in block head) (seen_in (frame_in block head) head)

-- the fragment in a block, or none
abbrev pub part_of : Block → Option Fragment
part_of block = part_at block block.packet

abbrev pub frame_at : Block → Option PacketHead → List ℕ
frame_at block None = []
frame_at block (Some head) = frame_in block head

abbrev pub frame_of : Block → List ℕ
frame_of block = frame_at block block.packet

-- the data of a frame's IPv4 packet
abbrev pub data_in : List ℕ → List ℕ
data_in frame = between (header_end frame (ethernet_length frame)) (ethernet_length frame + number frame (ethernet_length frame + 2)) frame

abbrev pub data_of : Block → List ℕ
data_of block = data_in (frame_of block)

-- the order of keys, and whether two are the same
abbrev pub key_cmp : Key → Key → Ordering
key_cmp a b = ordering_then (nat_cmp a.iface b.iface) (ordering_then (nat_cmp a.from b.from) (ordering_then (nat_cmp a.to b.to) (nat_cmp a.id b.id)))

abbrev pub is_same : Key → Key → Bool
is_same a b = is_eq (key_cmp a b)
