use Rattle.std.proofs.Common.{◌≡◌, length}
use Rattle.audit_stun.specs.Left.{counted_left}
use Rattle.audit_stun.proofs.counted.CountedIterator.next.Given as goal

abbrev pub invariant-loop-attribute : goal.invariant-loop-attribute
invariant-loop-attribute l = counted_left l.self ≡ counted_left l.initial.self

abbrev pub decreases-loop-attribute : goal.decreases-loop-attribute
decreases-loop-attribute l = length l.self.rest.now
