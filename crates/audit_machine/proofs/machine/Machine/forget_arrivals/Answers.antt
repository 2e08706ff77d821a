use Rattle.std.proofs.Common.{◌∙◌}
use Rattle.audit_machine.specs.Machine.{cut_of}
use Rattle.audit_machine.proofs.Lists.{nothing_joined}
use Rattle.audit_machine.proofs.machine.Machine.forget_arrivals.Goals as goal

pub arrivals-preserved : goal.arrivals-preserved
arrivals-preserved c =
    let old = c.args.self.now in
    record {
      segment = λ key_for view excluded. nothing_joined old.policy c.arrivals.self.policy c.arrivals.invariant.policy key_for view (cut_of old excluded) (cut_of c.arrivals.self excluded) (cut_of c.forget_arrival.new.self excluded)
          (c.arrivals.invariant.segment key_for view excluded) (c.forget_arrival.ensures.segment key_for view excluded);
      consistent = c.forget_arrival.ensures.consistent;
      policy = c.forget_arrival.ensures.policy ∙ c.arrivals.invariant.policy;
    }
