use Rattle.std.proofs.Common.{◌*◌, take, map}
use Rattle.audit_pcapng.specs.Packets.{packet_of}
use Rattle.audit_sightings.specs.Sightings.{TakesIn}
use Rattle.audit_sightings.proofs.parallel.take_by_threads.Given as goal

abbrev pub invariant-loop-number : goal.invariant-loop-number
invariant-loop-number g l = TakesIn l.policy l.fn.interfaces l.file (map packet_of (take (2048 * l.number) l.packets)) l.interfaces
