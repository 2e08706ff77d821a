use Rattle.audit_machine.specs.Machine.{IsConsistent}
use Rattle.bench_machine.proofs.again.judge_again.Given as goal

abbrev pub invariant-rounds : goal.invariant-rounds
invariant-rounds l = IsConsistent l.endless.machine
