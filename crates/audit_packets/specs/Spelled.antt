-- A UDP datagram in a frame, spelled out from the first byte to the last: Ethernet (IEEE 802.3)
-- with VLAN tags (IEEE 802.1Q), IPv4 (RFC 791, section 3.1), UDP (RFC 768).
use Rattle.std.specs.Prelude.{◌≡◌, ◌⊎◌, ℕ, ◌+◌, ◌*◌, ◌^◌, ◌<◌, ◌≤◌, List, [], ◌∷◌, ◌++◌, length}
use Rattle.std.specs.Int.{w16, w32, to_be_bytes}
use Rattle.audit_model.specs.declared.address.Addr.{Addr}

-- a VLAN tag, of a customer or of a service
abbrev pub IsTag : List ℕ → Type 0
IsTag tag = (a b : ℕ) × ((tag ≡ 0x81 ∷ 0x00 ∷ a ∷ b ∷ []) ⊎ (tag ≡ 0x88 ∷ 0xA8 ∷ a ∷ b ∷ []))

-- Two Ethernet addresses, no tag, one or two, the type of IPv4, and the IPv4 datagram. An IPv4
-- datagram's first byte is no tag's, so there is one such reading.
pub record HoldsIpv4 (frame datagram : List ℕ) : Type 0 where
  pub addresses : List ℕ
  pub first : List ℕ
  pub second : List ℕ
  pub twelve : length addresses ≡ 12
  pub tags : ((first ≡ []) × (second ≡ [])) ⊎ (IsTag first × (second ≡ [])) ⊎ (IsTag first × IsTag second)
  pub spelled : frame ≡ addresses ++ first ++ second ++ 0x08 ∷ 0x00 ∷ [] ++ datagram

-- An IPv4 header of this number of words, for UDP and no fragment, and the content after it. The
-- length in it is that of the whole datagram.
pub record HoldsProtocol (datagram : List ℕ) (words total from to : ℕ) (content : List ℕ) : Type 0 where
  pub service : ℕ
  pub identification : List ℕ
  pub flags : ℕ
  pub time_to_live : ℕ
  pub checksum : List ℕ
  pub options : List ℕ
  pub spelled : datagram ≡ (64 + words) ∷ service ∷ to_be_bytes w16 total ++ identification ++ (64 * flags) ∷ 0 ∷ time_to_live ∷ 17 ∷ checksum ++ to_be_bytes w32 from ++ to_be_bytes w32 to ++ options ++ content
  pub two : length identification ≡ 2
  pub two_more : length checksum ≡ 2
  pub least : 5 ≤ words
  pub most : words < 16
  pub optional : 20 + length options ≡ 4 * words
  pub total_fits : total < 2 ^ 16
  pub from_fits : from < 2 ^ 32
  pub to_fits : to < 2 ^ 32

-- a UDP header, the payload, and the link's padding after it
pub record HoldsPayload (content : List ℕ) (from to : ℕ) (payload : List ℕ) : Type 0 where
  pub checksum : List ℕ
  pub behind : List ℕ
  pub spelled : content ≡ to_be_bytes w16 from ++ to_be_bytes w16 to ++ to_be_bytes w16 (8 + length payload) ++ checksum ++ payload ++ behind
  pub two : length checksum ≡ 2
  pub from_fits : from < 2 ^ 16
  pub to_fits : to < 2 ^ 16

pub record HoldsUdp (frame : List ℕ) (from to : Addr) (payload : List ℕ) : Type 0 where
  pub datagram : List ℕ
  pub words : ℕ
  pub total : ℕ
  pub content : List ℕ
  pub ethernet : HoldsIpv4 frame datagram
  pub ipv4 : HoldsProtocol datagram words total from.ip to.ip content
  pub udp : HoldsPayload content from.port to.port payload
  pub within : 4 * words + 8 + length payload ≤ total
