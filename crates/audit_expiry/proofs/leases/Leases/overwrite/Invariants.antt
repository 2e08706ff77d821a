use Rattle.std.proofs.Common.{take}
use Rattle.audit_expiry.specs.Leases.{PutsAll}
use Rattle.audit_expiry.specs.Growth.{HasEach}
use Rattle.audit_expiry.proofs.leases.Leases.overwrite.Given as goal

abbrev pub invariant-loop-key : goal.invariant-loop-key
invariant-loop-key g l =
    PutsAll g.K.Ord.cmp l.fn.self l.self (take l.key-index l.keys) l.value × HasEach g.K.Ord.cmp l.self l.keys
