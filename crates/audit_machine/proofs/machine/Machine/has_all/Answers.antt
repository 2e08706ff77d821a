use Rattle.std.proofs.Common.{arith}
use Rattle.audit_sightings.specs.Intake.{taken}
use Rattle.audit_machine.specs.Counts.{count_of}
use Rattle.audit_machine.proofs.Complete.{all_placed}
use Rattle.audit_machine.proofs.machine.Machine.has_all.Goals as goal

pub returns : goal.returns
returns c t s there = all_placed (taken c.args.intake.now) (count_of c.args.self.now.placed) (λ k lt. c.interfaces.invariant k (omega (arith, lt, c.interfaces-test.false, c.interfaces-iface-end.ensures))) s there
