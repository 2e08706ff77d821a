use Rattle.std.proofs.Common.{◌≡◌, ℕ, take}
use Rattle.audit_cuts.specs.Carried.{placed_in}
use Rattle.audit_machine.specs.Counts.{count_of}
use Rattle.audit_machine.proofs.counts.Counts.resume.Given as goal

-- the counts are those of the interfaces so far
abbrev pub invariant-loop-iface : goal.invariant-loop-iface
invariant-loop-iface l = (k : ℕ) → count_of l.counts k ≡ placed_in (take l.iface l.all) k
