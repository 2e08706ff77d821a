-- The headers in a frame, by their places in the whole frame: Ethernet with VLAN tags (IEEE 802.3,
-- IEEE 802.1Q), IPv4 (RFC 791, section 3.1), UDP (RFC 768).
use Rattle.std.specs.Prelude.{ℕ, ◌+◌, ◌*◌, ◌/◌, ◌%◌, Bool, ◌==◌, ◌||◌, not, ◌&&◌, nat_le, if◌then◌else◌, List, slice_index}

-- two and four bytes in network order
abbrev pub number : List ℕ → ℕ → ℕ
number frame at = slice_index frame at * 256 + slice_index frame (at + 1)

abbrev pub long_number : List ℕ → ℕ → ℕ
long_number frame at = number frame at * 65536 + number frame (at + 2)

-- the types of a customer's and a service's VLAN tag
abbrev pub is_tag : ℕ → Bool
is_tag kind = kind == 0x8100 || kind == 0x88A8

-- two addresses and a type, and four more bytes for each of at most two tags: the last two bytes
-- are the type
unfoldable pub ethernet_length : List ℕ → ℕ
ethernet_length frame = if is_tag (number frame 12) then (if is_tag (number frame 16) then 22 else 18) else 14

pub record Ipv4 : Type 0 where
  pub version : ℕ
  pub header_length : ℕ
  pub total_length : ℕ
  pub is_fragment : Bool
  pub protocol : ℕ
  pub from : ℕ
  pub to : ℕ

-- a fragment has the flag "more fragments" or an offset
abbrev pub ipv4_at : List ℕ → ℕ → Ipv4
ipv4_at frame at = record {
  version = slice_index frame at / 16;
  header_length = slice_index frame at % 16 * 4;
  total_length = number frame (at + 2);
  is_fragment = not (number frame (at + 6) % 0x4000 == 0);
  protocol = slice_index frame (at + 9);
  from = long_number frame (at + 12);
  to = long_number frame (at + 16);
}

pub record Udp_header : Type 0 where
  pub from : ℕ
  pub to : ℕ
  pub length : ℕ

abbrev pub udp_at : List ℕ → ℕ → Udp_header
udp_at frame at = record { from = number frame at; to = number frame (at + 2); length = number frame (at + 4) }

-- an IPv4 header that UDP follows
abbrev pub carries_udp : Ipv4 → Bool
carries_udp ip = ip.version == 4 && nat_le 20 ip.header_length && nat_le ip.header_length ip.total_length && ip.protocol == 17

-- the whole UDP datagram is within the IPv4 datagram
abbrev pub fits_in : Udp_header → Ipv4 → Bool
fits_in udp ip = nat_le (ip.header_length + 8) ip.total_length && nat_le 8 udp.length && nat_le (ip.header_length + udp.length) ip.total_length
