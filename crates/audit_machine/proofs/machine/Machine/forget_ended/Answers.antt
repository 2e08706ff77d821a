use Rattle.audit_machine.specs.Machine.{cut_of}
use Rattle.audit_machine.proofs.Lists.{nothing_joined}
use Rattle.audit_machine.proofs.machine.Machine.forget_ended.Goals as goal

pub returns-clause-segment : goal.returns-clause-segment
returns-clause-segment c key_for view excluded =
    let old = c.args.self.now in
    nothing_joined old.policy c.purge_client.new.self.policy c.purge_client.ensures.policy key_for view (cut_of old excluded) (cut_of c.purge_client.new.self excluded) (cut_of c.forget_client.new.self excluded)
    (c.purge_client.ensures.segment key_for view excluded) (c.forget_client.ensures.segment key_for view excluded)
