use Rattle.std.proofs.Common.{◌≡◌, ◌<◌, ℕ, take}
use Rattle.audit_cuts.specs.Rebasing.{bases_of}
use Rattle.audit_cuts.specs.Carried.{placed_in}
use Rattle.audit_machine.specs.Counts.{count_of}
use Rattle.audit_machine.proofs.counts.Counts.interfaces.Given as goal

-- the interfaces so far have their bases and counts
abbrev pub invariant-loop-iface : goal.invariant-loop-iface
invariant-loop-iface l = record {
  bases : bases_of l.all.items ≡ take l.iface l.bases;
  placed : (k : ℕ) → k < l.iface → placed_in l.all.items k ≡ count_of l.self k;
}
