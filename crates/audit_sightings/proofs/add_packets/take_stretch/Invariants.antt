use Rattle.std.proofs.Common.{take, map}
use Rattle.audit_pcapng.specs.Packets.{packet_of}
use Rattle.audit_sightings.specs.Sightings.{TakesIn}
use Rattle.audit_sightings.proofs.add_packets.take_stretch.Given as goal

abbrev pub invariant-loop-i : goal.invariant-loop-i
invariant-loop-i l = TakesIn l.policy l.fn.interfaces l.file (map packet_of (take l.i l.packets)) l.interfaces
