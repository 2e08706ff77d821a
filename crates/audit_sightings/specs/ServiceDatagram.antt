-- The result of a packet: a datagram of the service, nothing, or a reason to refuse the capture.
use Rattle.std.specs.Prelude.{ℕ, Bool, true, false, ◌||◌, List, Option, Some, None, Result, Ok, Err, nat_lt}
use Rattle.audit_model.specs.declared.address.Addr.{Addr}
use Rattle.audit_model.specs.declared.policy.Policy.{Policy}
use Rattle.audit_model.specs.declared.sighting.Side.{Side}
use Rattle.audit_model.specs.declared.sighting.Side.TheVariants.{Arrives, Leaves}
use Rattle.audit_model.specs.Policy.{listens, relays, is_of_service}
use Rattle.audit_pcapng.specs.declared.packet.Packet.{Packet}
use Rattle.audit_packets.specs.Reading as frame
use Rattle.audit_packets.specs.Reading.{Datagram, datagram_of}
use Rattle.audit_sightings.specs.declared.fault.IntakeFaultKind.{IntakeFaultKind}
use Rattle.audit_sightings.specs.declared.fault.IntakeFaultKind.TheVariants.{Fragment, Hairpin, CutDatagram}

-- a datagram with one endpoint in the service
pub record ServiceDatagram : Type 0 where
  pub stamp : ℕ
  pub side : Side
  pub from : Addr
  pub to : Addr
  pub payload : List ℕ

-- an endpoint of the service
abbrev pub is_endpoint : Policy → Addr → Bool
is_endpoint policy addr = listens policy addr || relays policy addr

-- by whether a datagram leaves the service, and whether it arrives at it
abbrev pub kept_by_ends : Bool → Bool → ℕ → Addr → Addr → List ℕ → Result (Option ServiceDatagram) IntakeFaultKind
kept_by_ends true true stamp from to payload = Err Hairpin
kept_by_ends true false stamp from to payload = Ok (Some (record { stamp = stamp; side = Leaves; from = from; to = to; payload = payload }))
kept_by_ends false true stamp from to payload = Ok (Some (record { stamp = stamp; side = Arrives; from = from; to = to; payload = payload }))
kept_by_ends false false stamp from to payload = Ok None

-- refused if one of the two is an IP of the service
abbrev pub refused_for : IntakeFaultKind → Bool → Result (Option ServiceDatagram) IntakeFaultKind
refused_for fault true = Err fault
refused_for fault false = Ok None

-- a frame that is cut before its addresses may be the service's
abbrev pub kept_datagram : Policy → ℕ → Datagram → Result (Option ServiceDatagram) IntakeFaultKind
kept_datagram policy stamp (frame.Udp from to payload) = kept_by_ends (is_endpoint policy from) (is_endpoint policy to) stamp from to payload
kept_datagram policy stamp frame.Other = Ok None
kept_datagram policy stamp (frame.Fragment from to) = refused_for Fragment (is_of_service policy from || is_of_service policy to)
kept_datagram policy stamp (frame.Cut None) = Err CutDatagram
kept_datagram policy stamp (frame.Cut (Some ips)) = refused_for CutDatagram (is_of_service policy ips.0 || is_of_service policy ips.1)

unfoldable pub service_datagram_of : Policy → Packet → Result (Option ServiceDatagram) IntakeFaultKind
service_datagram_of policy packet = kept_datagram policy packet.stamp (datagram_of packet.bytes (nat_lt packet.captured packet.original))
