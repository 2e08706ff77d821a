use Rattle.std.proofs.Common.{◌<◌, ◌≤◌, ◌+◌, length}
use Rattle.audit_sights.specs.Pairs.{IsWithin}
use Rattle.audit_sights.proofs.rising.place_from.Given as goal

abbrev pub invariant-quartering : goal.invariant-quartering
invariant-quartering g l = record { some : 0 < l.size; bound : l.low + l.size ≤ length l.pairs; within : IsWithin l.pairs l.index l.low (l.low + l.size) }

abbrev pub decreases-quartering : goal.decreases-quartering
decreases-quartering g l = l.size
