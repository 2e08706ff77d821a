-- Unread packets that may carry the data of clients over TCP, TLS, DTLS or IPv6, and the departures
-- excluded because such a packet may have carried their data.
use Rattle.std.specs.Prelude.{◌≡◌, ◌<◌, ℕ, ◌+◌, ◌-◌, Bool, true, false, not, ◌&&◌, ◌||◌, ◌==◌, nat_le, nat_lt, if◌then◌else◌, List, [], ◌∷◌, length, get_or, fold, slice_index, slice_get, Option, Some, None}
use Rattle.audit_model.specs.declared.policy.Policy.{Policy}
use Rattle.audit_model.specs.declared.sighting.Side.{Side}
use Rattle.audit_model.specs.declared.sighting.Side.TheVariants.{Arrives, Leaves}
use Rattle.audit_model.specs.Policy.{is_of_service}
use Rattle.audit_packets.specs.Frame.{number, long_number, ethernet_length}
use Rattle.prep_blocks.specs.declared.block.Block.{Block}
use Rattle.prep_blocks.specs.declared.block.PacketHead.{PacketHead}
use Rattle.prep_causes.specs.declared.unread.Group.{Group}
use Rattle.prep_causes.specs.declared.unread.Unread.{Unread}
use Rattle.prep_causes.specs.declared.unread.Unread.TheVariants.{Carrier, Departure}
use Rattle.prep_causes.specs.Groups.{capped, no_group, group_with, carried_with}
use Rattle.prep_frames.specs.Frames.{frame_in}
use Rattle.prep_cut.specs.declared.datagram.Datagram.{Datagram}
use Rattle.prep_cut.specs.declared.plan.Plan.{Plan}
use Rattle.prep_cut.specs.declared.reason.Reason.{Reason}
use Rattle.prep_cut.specs.declared.reason.Reason.TheVariants as reasons
use Rattle.prep_cut.specs.Caused.{needs_cause}
use Rattle.prep_cut.specs.Datagrams.{datagram_of_block, payload_of_block}
use Rattle.prep_cut.specs.Marks.{Marked}
use Rattle.prep_cut.specs.Needing.{reach_of}

-- TCP or UDP over IPv4 (RFC 791, section 3.1) with an end at an IP address of the service
abbrev pub is_of_service_at : Policy → List ℕ → ℕ → Bool
is_of_service_at policy frame at =
    (slice_index frame (at + 9) == 6 || slice_index frame (at + 9) == 17)
    && (is_of_service policy (long_number frame (at + 12)) || is_of_service policy (long_number frame (at + 16)))

abbrev pub is_carrier_at : Policy → List ℕ → ℕ → Bool
is_carrier_at policy frame at = if number frame (at - 2) == 0x0800 then is_of_service_at policy frame at else (number frame (at - 2) == 0x86DD)

-- such a packet, or one of IPv6 (type 0x86DD)
abbrev pub is_carrier : Policy → List ℕ → Bool
is_carrier policy frame = is_carrier_at policy frame (ethernet_length frame)

-- A DTLS record that carries no data of a client: change_cipher_spec, alert or handshake (RFC 6347,
-- section 4.1).
abbrev pub is_handshake : List ℕ → Bool
is_handshake [] = false
is_handshake (first ∷ rest) = nat_le 20 first && nat_le first 22

-- the data of departures excluded by these lines came in unread packets
abbrev pub is_unread : Reason → List ℕ → Bool
is_unread (reasons.AddressTold relayed tenure client) payload = true
is_unread (reasons.Address relayed tenure) payload = true
is_unread (reasons.Dtls pair) payload = not (is_handshake payload)
is_unread other payload = false

abbrev pub owes_by : Option Reason → List ℕ → Bool
owes_by None payload = false
owes_by (Some reason) payload = needs_cause reason || is_unread reason payload

abbrev pub owes_on : Plan → ℕ → List ℕ → Side → Bool
owes_on plan line payload Arrives = false
owes_on plan line payload Leaves = owes_by (slice_get plan.lines line) payload

abbrev pub owes_datagram : Plan → Option ℕ → Block → Option Datagram → Bool
owes_datagram plan None block datagram = false
owes_datagram plan (Some line) block None = false
owes_datagram plan (Some line) block (Some datagram) = owes_on plan line (payload_of_block block) datagram.side

-- a departure excluded by a line by which it needs an arrival, or a packet that may have carried
-- its data
abbrev pub owes : Plan → Marked → Bool
owes plan one = owes_datagram plan one.line one.block (datagram_of_block plan.policy one.block)

abbrev pub owing_with : Bool → ℕ → ℕ
owing_with does_owe count = if does_owe then capped (count + 1) else count

abbrev pub owing_more : Plan → ℕ → Marked → ℕ
owing_more plan count one = owing_with (owes plan one) count

-- the number of such departures
abbrev pub owing_of : Plan → List Marked → ℕ
owing_of plan blocks = fold (owing_more plan) 0 blocks

-- The proposal has sizes in steps of 8 bytes. A departure over DTLS also has the header of a Data
-- indication and the overhead of DTLS.
abbrev pub added_by : Option Reason → ℕ
added_by (Some (reasons.Dtls pair)) = 104
added_by other = 7

-- so that the bytes of the carriers bound the number of departures
abbrev pub at_least_one : ℕ → ℕ
at_least_one bytes = if bytes == 0 then 1 else bytes

abbrev pub by_side : Plan → ℕ → Block → Datagram → Side → Option Unread
by_side plan line block datagram Arrives = Some (Carrier datagram.stamp (at_least_one datagram.size))
by_side plan line block datagram Leaves =
    if owes_by (slice_get plan.lines line) (payload_of_block block) then Some (Departure datagram.stamp (at_least_one (datagram.size - added_by (slice_get plan.lines line)))) else None

-- A packet has at least 34 bytes of headers, of Ethernet and of IPv4 or IPv6.
abbrev pub unread_by : Plan → Option ℕ → Block → Option PacketHead → Option Datagram → Option Unread
unread_by plan line block None datagram = None
unread_by plan line block (Some head) None = if is_carrier plan.policy (frame_in block head) then Some (Carrier head.stamp (head.original - 34)) else None
unread_by plan None block (Some head) (Some datagram) = None
unread_by plan (Some line) block (Some head) (Some datagram) = by_side plan line block datagram datagram.side

-- The entry of a block in its group: a carrier, if it is an excluded arrival or a packet that isn't
-- a datagram of the service; a departure, if it needs a carrier.
abbrev pub unread_of : Plan → Marked → Option Unread
unread_of plan one = unread_by plan one.line one.block one.block.packet (datagram_of_block plan.policy one.block)

-- Numbers from the count of pairs on are of groups.
abbrev pub group_of : Plan → Option ℕ → Option ℕ
group_of plan None = None
group_of plan (Some number) = if nat_lt number plan.pairs then None else Some (number - plan.pairs)

abbrev pub group_by : Option ℕ → Option Unread → ℕ → Group → Group
group_by None unread other group = group
group_by (Some number) None other group = group
group_by (Some number) (Some unread) other group = if other == number then group_with group unread else group

abbrev pub group_more : Plan → ℕ → Group → Marked → Group
group_more plan number group one = group_by (group_of plan one.cause) (unread_of plan one) number group

-- the packets of a group
abbrev pub group_at : Plan → ℕ → List Marked → Group
group_at plan number blocks = fold (group_more plan number) no_group blocks

-- This number of departures is in groups whose carriers can have carried all departures.
pub record AreCarried (plan : Plan) (blocks : List Marked) (count : ℕ) : Type 0 where
  pub groups : List Group
  pub group_is : (number : ℕ) → number < length groups → get_or groups number no_group ≡ group_at plan number blocks
  pub counted : count ≡ carried_with 0 (reach_of plan.policy) groups
