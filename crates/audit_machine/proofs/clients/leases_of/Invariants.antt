use Rattle.std.proofs.Common.{◌≡◌, take}
use Rattle.audit_expiry.specs.Leases.{value_at}
use Rattle.audit_machine.proofs.Carried.{first_lease}
use Rattle.audit_machine.proofs.clients.leases_of.Given as goal

-- the leases are those of the entries so far
abbrev pub invariant-loop-key : goal.invariant-loop-key
invariant-loop-key g l = (key : g.row.K.Denot) → value_at g.K.Ord.cmp l.leases key ≡ first_lease g.K.Ord.cmp (take l.key-index l.entries) key
