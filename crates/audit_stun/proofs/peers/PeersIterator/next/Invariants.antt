use Rattle.std.proofs.Common.{◌≡◌, length}
use Rattle.audit_stun.specs.Counted.{values_of}
use Rattle.audit_stun.specs.Left.{counted_left}
use Rattle.audit_stun.proofs.peers.PeersIterator.next.Given as goal

abbrev pub invariant-loop-attribute : goal.invariant-loop-attribute
invariant-loop-attribute l = values_of 18 (counted_left l.self-inside.counted) ≡ values_of 18 (counted_left l.initial.self-inside.counted)

abbrev pub decreases-loop-attribute : goal.decreases-loop-attribute
decreases-loop-attribute l = length (counted_left l.self-inside.counted)
