-- The datagram of the service in a packet's block, by the definition of a frame's content.
use Rattle.std.specs.Prelude.{ℕ, Bool, true, false, not, ◌&&◌, ◌||◌, ◌==◌, if◌then◌else◌, List, [], ◌∷◌, length, Option, Some, None, nat_lt, nat_le}
use Rattle.audit_model.specs.declared.address.Addr.{Addr}
use Rattle.audit_model.specs.declared.policy.Policy.{Policy}
use Rattle.audit_model.specs.declared.sighting.Side.TheVariants.{Arrives, Leaves}
use Rattle.audit_packets.specs.Reading as frame
use Rattle.audit_packets.specs.Reading.{Datagram as Held, datagram_of}
use Rattle.audit_model.specs.Policy.{listens, relays}
use Rattle.prep_blocks.specs.declared.block.Block.{Block}
use Rattle.prep_blocks.specs.declared.block.PacketHead.{PacketHead}
use Rattle.prep_frames.specs.Frames.{frame_in}
use Rattle.prep_cut.specs.declared.datagram.Datagram.{Datagram}
use Rattle.prep_cut.specs.declared.transaction.Transaction.{Transaction}
use Rattle.prep_cut.specs.Identifying.{id_of, transaction_of}

-- an end of the service
abbrev pub is_endpoint : Policy → Addr → Bool
is_endpoint policy addr = listens policy addr || relays policy addr

-- the first byte is 20 to 63
abbrev pub is_secured : List ℕ → Bool
is_secured [] = false
is_secured (first ∷ rest) = nat_le 20 first && nat_lt first 64

-- the first byte is 64 to 127, or the first two are the type of a Send or a Data indication
abbrev pub carries : List ℕ → Bool
carries [] = false
carries (first ∷ []) = nat_le 64 first && nat_lt first 128
carries (first ∷ second ∷ rest) = if first == 0 then (second == 22) || (second == 23) else (nat_le 64 first && nat_lt first 128)

-- an Allocate success response (type 259) that leaves a listen address for a client
abbrev pub granted_by : Policy → Bool → Addr → Addr → List ℕ → Option Transaction
granted_by policy arrives from to payload = transaction_of (listens policy from && not arrives) to from (id_of 259 payload)

-- an Allocate request (type 3) that arrives at a listen address from a client
abbrev pub requested_by : Policy → Addr → Addr → List ℕ → Option Transaction
requested_by policy from to payload = transaction_of (listens policy to) from to (id_of 3 payload)

-- by whether a datagram is from an end of the service, and whether it is to one
abbrev pub by_ends : Policy → Bool → Bool → ℕ → Addr → Addr → List ℕ → Option Datagram
by_ends policy true arrives stamp from to payload = Some (record {
  stamp = stamp;
  from = from;
  to = to;
  side = Leaves;
  is_inside = arrives;
  is_dtls = is_secured payload;
  is_data = carries payload;
  size = length payload;
  allocate = granted_by policy arrives from to payload;
})
by_ends policy false true stamp from to payload = Some (record {
  stamp = stamp;
  from = from;
  to = to;
  side = Arrives;
  is_inside = false;
  is_dtls = is_secured payload;
  is_data = carries payload;
  size = length payload;
  allocate = requested_by policy from to payload;
})
by_ends policy false false stamp from to payload = None

abbrev pub of_ends : Policy → ℕ → Addr → Addr → List ℕ → Option Datagram
of_ends policy stamp from to payload = by_ends policy (is_endpoint policy from) (is_endpoint policy to) stamp from to payload

abbrev pub of_seen : Policy → ℕ → Held → Option Datagram
of_seen policy stamp (frame.Udp from to payload) = of_ends policy stamp from to payload
of_seen policy stamp frame.Other = None
of_seen policy stamp (frame.Fragment from to) = None
of_seen policy stamp (frame.Cut ips) = None

abbrev pub of_packet : Policy → Block → Option PacketHead → Option Datagram
of_packet policy block None = None
of_packet policy block (Some head) = of_seen policy head.stamp (datagram_of (frame_in block head) (nat_lt head.captured head.original))

abbrev pub payload_of : Held → List ℕ
payload_of (frame.Udp from to payload) = payload
payload_of frame.Other = []
payload_of (frame.Fragment from to) = []
payload_of (frame.Cut ips) = []

abbrev pub payload_in : Block → Option PacketHead → List ℕ
payload_in block None = []
payload_in block (Some head) = payload_of (datagram_of (frame_in block head) (nat_lt head.captured head.original))

-- the payload of the UDP datagram in the block's packet
abbrev pub payload_of_block : Block → List ℕ
payload_of_block block = payload_in block block.packet

-- the datagram in the block's packet, if it is one of the service
abbrev pub datagram_of_block : Policy → Block → Option Datagram
datagram_of_block policy block = of_packet policy block block.packet
