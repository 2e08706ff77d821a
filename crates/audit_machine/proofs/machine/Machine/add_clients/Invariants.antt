use Rattle.std.proofs.Common.{◌≡◌, take}
use Rattle.audit_model.specs.declared.pair.Pair.{Pair}
use Rattle.audit_cuts.specs.Carried.{allocation_in}
use Rattle.audit_machine.specs.Machine.{IsConsistent}
use Rattle.audit_machine.specs.Tables.{allocation_of}
use Rattle.audit_machine.proofs.machine.Machine.add_clients.Given as goal

-- the allocations are those of the clients so far
abbrev pub invariant-loop-client : goal.invariant-loop-client
invariant-loop-client l = record {
  consistent : IsConsistent l.self;
  tables : (c : Pair) → allocation_of l.self.tables c ≡ allocation_in (take l.client-index l.clients) c;
  rest : l.self ≡ record l.fn.self { tables = l.self.tables; holders = l.self.holders };
}
