use Rattle.audit_machine.specs.Machine.{IsConsistent}
use Rattle.bench_machine.proofs.again.Endless.round.Given as goal

abbrev pub invariant-actions : goal.invariant-actions
invariant-actions l = IsConsistent l.self.machine
