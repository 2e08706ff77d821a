use Rattle.std.proofs.Common.{◌≡◌, ◌++◌}
use Rattle.audit_expiry.proofs.leases.Leases.to_vec.Given as goal

-- the entries so far and those that are left are the table
abbrev pub invariant-loop-key : goal.invariant-loop-key
invariant-loop-key g l = l.entries.items ++ l.key-iterator ≡ l.self
