use Rattle.std.proofs.Common.{◌≡◌, ◌≤◌, ℕ, Some, None, unwrap_or}
use Rattle.std.specs.List.{AllByRecursion}
use Rattle.audit_machine.proofs.Carried.{at_key}
use Rattle.audit_machine.proofs.counts.Counts.are_before.Given as goal

-- the entries that are left are of the counts, and an interface from the end on has a count other than 0 only if it is among the entries that are left
abbrev pub invariant-loop-iface : goal.invariant-loop-iface
invariant-loop-iface l = AllByRecursion (λ (e : ℕ × ℕ). at_key l.self.counts.entries e.0 ≡ Some e.1) l.iface-iterator × ((iface : ℕ) → l.end ≤ iface → at_key l.iface-iterator iface ≡ None → unwrap_or (at_key l.self.counts.entries iface) 0 ≡ 0)
