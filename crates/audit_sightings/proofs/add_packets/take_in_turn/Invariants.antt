use Rattle.std.proofs.Common.{◌*◌, take, map}
use Rattle.audit_pcapng.specs.Packets.{packet_of}
use Rattle.audit_sightings.specs.Sightings.{TakesIn}
use Rattle.audit_sightings.proofs.add_packets.take_in_turn.Given as goal

abbrev pub invariant-loop-number : goal.invariant-loop-number
invariant-loop-number l = TakesIn l.policy l.fn.interfaces l.file (map packet_of (take (2048 * l.number) l.packets)) l.interfaces
