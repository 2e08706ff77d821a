use Rattle.std.proofs.Common.{false}
use Rattle.audit_expiry.proofs.Tables.{EachEntry}
use Rattle.audit_expiry.proofs.leases.Leases.any.Given as goal

-- where the test fails at each entry that is left, it fails at each entry
abbrev pub invariant-loop-key : goal.invariant-loop-key
invariant-loop-key g l =
    goal.F-IsAlwaysCallable g l.test
    × (EachEntry (λ key value. goal.F-post g l.test key value false) l.key-iterator → EachEntry (λ key value. goal.F-post g l.test key value false) l.self)
