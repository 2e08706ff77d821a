-- A packet with borrowed bytes, as a packet.
use Rattle.std.specs.Prelude.{Option, Some, None, Result, Ok, Err}
use Rattle.audit_pcapng.specs.declared.packet.Packet.{Packet}
use Rattle.audit_pcapng.specs.declared.packet.PacketSlice.{PacketSlice}
use Rattle.audit_pcapng.specs.declared.fault.CaptureFault.{CaptureFault}

abbrev pub packet_of : PacketSlice → Packet
packet_of slice = record { stamp = slice.stamp; bytes = slice.bytes.now; iface = slice.iface; captured = slice.captured; original = slice.original }

abbrev pub given_of : Option PacketSlice → Option Packet
given_of None = None
given_of (Some slice) = Some (packet_of slice)

abbrev pub read_of : Result (Option PacketSlice) CaptureFault → Result (Option Packet) CaptureFault
read_of (Ok given) = Ok (given_of given)
read_of (Err fault) = Err fault
