use Rattle.std.proofs.Common.{◌≡◌}
use Rattle.audit_model.specs.declared.pair.Pair.{Pair}
use Rattle.audit_cuts.specs.Carried as carried
use Rattle.audit_machine.specs.Tables.{allocation_of}
use Rattle.audit_machine.proofs.Carried.{or_else, allocation_among, AreFound}
use Rattle.audit_machine.proofs.tables.Tables.to_vec.Given as goal

-- each allocation is among the clients so far, or else in the entries that are left
abbrev pub invariant-loop-key : goal.invariant-loop-key
invariant-loop-key l = record {
  tables : (c : Pair) → allocation_of l.self c ≡ or_else (carried.allocation_in l.all.items c) (allocation_among l.key-iterator c);
  found : AreFound l.self l.key-iterator;
}
