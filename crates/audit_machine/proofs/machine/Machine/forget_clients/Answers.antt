use Rattle.std.proofs.Common.{◌∙◌}
use Rattle.audit_machine.specs.Machine.{cut_of}
use Rattle.audit_machine.proofs.Lists.{nothing_joined}
use Rattle.audit_machine.proofs.machine.Machine.forget_clients.Goals as goal

pub clients-preserved : goal.clients-preserved
clients-preserved c =
    let old = c.args.self.now in
    record {
      segment = λ key_for view excluded. nothing_joined old.policy c.clients.self.policy c.clients.invariant.policy key_for view (cut_of old excluded) (cut_of c.clients.self excluded) (cut_of c.forget_ended.new.self excluded)
          (c.clients.invariant.segment key_for view excluded) (c.forget_ended.ensures.segment key_for view excluded);
      consistent = c.forget_ended.ensures.consistent;
      policy = c.forget_ended.ensures.policy ∙ c.clients.invariant.policy;
    }

pub returns-in_err-look_later-clause-segment : goal.returns-in_err-look_later-clause-segment
returns-in_err-look_later-clause-segment c key_for view excluded =
    let old = c.args.self.now in
    nothing_joined old.policy c.clients.self.policy c.clients.invariant.policy key_for view (cut_of old excluded) (cut_of c.clients.self excluded) (cut_of c.forget_ended.new.self excluded)
    (c.clients.invariant.segment key_for view excluded) (c.forget_ended.ensures.segment key_for view excluded)
