use Rattle.std.proofs.Common.{◌≡◌, ◌++◌, map}
use Rattle.audit_machine.proofs.Carried.{entry_of}
use Rattle.audit_machine.proofs.times.Times.to_vec.Given as goal

-- the entries so far and those that are left are those of the map
abbrev pub invariant-loop-sight : goal.invariant-loop-sight
invariant-loop-sight l = map entry_of l.all.items ++ l.sight-iterator ≡ l.self.moments.entries
