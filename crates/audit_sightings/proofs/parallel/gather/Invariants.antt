use Rattle.std.proofs.Common.{ℕ, List, ◌++◌, length, map}
use Rattle.audit_pcapng.specs.declared.packet.Packet.{Packet}
use Rattle.audit_pcapng.specs.Packets.{packet_of}
use Rattle.audit_pcapng.specs.Steps.{IsAt}
use Rattle.audit_sightings.proofs.parallel.gather.Given as goal

abbrev pub invariant-steps : goal.invariant-steps
invariant-steps l = (text : List ℕ) (before : List Packet) → IsAt l.fn.reader text before l.fn.rest → IsAt l.reader text (before ++ map packet_of l.packets.items) l.rest

abbrev pub decreases-steps : goal.decreases-steps
decreases-steps l = length l.rest
