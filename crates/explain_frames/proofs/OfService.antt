-- Which packets are the service's.
use Rattle.std.proofs.Common.{◌≡◌, ℕ, List, Bool, true, false, ◌||◌, Some, None, refl, is_some, nat_lt}
use Rattle.std.specs.Result.{result_unwrap_or}
use Rattle.audit_model.specs.declared.address.Addr.{Addr}
use Rattle.audit_model.specs.declared.policy.Policy.{Policy}
use Rattle.audit_model.specs.Policy.{is_of_service}
use Rattle.audit_pcapng.specs.declared.packet.Packet.{Packet}
use Rattle.audit_packets.specs.Reading as frame
use Rattle.audit_packets.specs.Reading.{Datagram, datagram_of}
use Rattle.audit_sightings.specs.declared.fault.IntakeFaultKind.{IntakeFaultKind}
use Rattle.audit_sightings.specs.declared.fault.IntakeFaultKind.TheVariants as faults
use Rattle.audit_sightings.specs.ServiceDatagram.{service_datagram_of, is_endpoint, kept_by_ends, kept_datagram, refused_for}
use Rattle.audit_sightings.specs.Sightings.{kept_in}
use Rattle.explain_frames.specs.FramesOf.{one_of}

-- what a frame says of whether it is the service's
abbrev pub seen_is : Policy → Datagram → Bool
seen_is policy (frame.Udp from to payload) = one_of (is_endpoint policy from) (is_endpoint policy to)
seen_is policy frame.Other = false
seen_is policy (frame.Fragment from to) = false
seen_is policy (frame.Cut ips) = false

by_ends : (leaves arrives : Bool) (stamp : ℕ) (from to : Addr) (payload : List ℕ) → is_some (result_unwrap_or (kept_by_ends leaves arrives stamp from to payload) None) ≡ one_of leaves arrives
by_ends true true stamp from to payload = refl
by_ends true false stamp from to payload = refl
by_ends false true stamp from to payload = refl
by_ends false false stamp from to payload = refl

by_refusal : (fault : IntakeFaultKind) (touches : Bool) → is_some (result_unwrap_or (refused_for fault touches) None) ≡ false
by_refusal fault true = refl
by_refusal fault false = refl

by_datagram : (policy : Policy) (stamp : ℕ) (d : Datagram) → is_some (result_unwrap_or (kept_datagram policy stamp d) None) ≡ seen_is policy d
by_datagram policy stamp (frame.Udp from to payload) = by_ends (is_endpoint policy from) (is_endpoint policy to) stamp from to payload
by_datagram policy stamp frame.Other = refl
by_datagram policy stamp (frame.Fragment from to) = by_refusal faults.Fragment (is_of_service policy from || is_of_service policy to)
by_datagram policy stamp (frame.Cut None) = refl
by_datagram policy stamp (frame.Cut (Some ips)) = by_refusal faults.CutDatagram (is_of_service policy ips.0 || is_of_service policy ips.1)

-- a packet is the service's where its frame says so
pub kept_seen : (policy : Policy) (packet : Packet) (d : Datagram) → d ≡ datagram_of packet.bytes (nat_lt packet.captured packet.original) → is_some (kept_in policy packet) ≡ seen_is policy d
unfolding service_datagram_of
kept_seen policy packet d is = rw is (by_datagram policy packet.stamp (datagram_of packet.bytes (nat_lt packet.captured packet.original)))
