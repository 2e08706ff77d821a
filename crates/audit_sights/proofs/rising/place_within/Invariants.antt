use Rattle.std.proofs.Common.{◌<◌, ◌≤◌, ◌+◌, length}
use Rattle.audit_sights.specs.Pairs.{IsWithin}
use Rattle.audit_sights.proofs.rising.place_within.Given as goal

abbrev pub invariant-halving : goal.invariant-halving
invariant-halving g l = record { some : 0 < l.size; bound : l.low + l.size ≤ length l.pairs; within : IsWithin l.pairs l.index l.low (l.low + l.size) }

abbrev pub decreases-halving : goal.decreases-halving
decreases-halving g l = l.size
