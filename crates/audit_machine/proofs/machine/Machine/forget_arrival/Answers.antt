use Rattle.audit_machine.specs.Machine.{cut_of}
use Rattle.audit_machine.specs.Times.{time_of}
use Rattle.audit_machine.proofs.ForgettingArrivals.{forgets_arrival}
use Rattle.audit_machine.proofs.machine.Machine.forget_arrival.Goals as goal

pub returns-then-is_too_old-clause-segment : goal.returns-then-is_too_old-clause-segment
returns-then-is_too_old-clause-segment c key_for view excluded =
    forgets_arrival c.args.self.now.policy key_for view (cut_of c.args.self.now excluded) c.args.sight (time_of c.remove.new.self) c.remove.ensures (c.is_too_old.ensures.0 c.if-is_too_old.true)
