use Rattle.audit_machine.specs.Machine.{cut_of}
use Rattle.audit_machine.proofs.Lists.{nothing_joined}
use Rattle.audit_machine.proofs.machine.Machine.forget.Goals as goal

pub returns-clause-segment : goal.returns-clause-segment
returns-clause-segment c key_for view excluded =
    let old = c.args.self.now in
    nothing_joined old.policy c.forget_arrivals.new.self.policy c.forget_arrivals.ensures.policy key_for view (cut_of old excluded) (cut_of c.forget_arrivals.new.self excluded) (cut_of c.forget_clients.new.self excluded)
    (c.forget_arrivals.ensures.segment key_for view excluded) (c.forget_clients.ensures.segment key_for view excluded)
