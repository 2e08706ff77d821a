use Rattle.std.proofs.Common.{◌≡◌, ℕ}
use Rattle.audit_machine.specs.Carrying.{base_at}
use Rattle.audit_watch.proofs.watch.with_all.Given as goal

-- a base of 0 is that of an interface without a base
abbrev pub invariant-interfaces : goal.invariant-interfaces
invariant-interfaces l = (iface : ℕ) → base_at l.all.items iface ≡ base_at l.bases iface
