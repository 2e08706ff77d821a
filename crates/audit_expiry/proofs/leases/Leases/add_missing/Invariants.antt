use Rattle.std.proofs.Common.{take}
use Rattle.audit_expiry.specs.Growth.{Grew, HasEach, KeepsOthers}
use Rattle.audit_expiry.proofs.leases.Leases.add_missing.Given as goal

abbrev pub invariant-loop-key : goal.invariant-loop-key
invariant-loop-key g l =
    Grew g.K.Ord.cmp l.value l.fn.self l.added.items l.self
    × HasEach g.K.Ord.cmp l.self (take l.key-index l.keys)
    × KeepsOthers g.K.Ord.cmp l.fn.self l.self (take l.key-index l.keys)
