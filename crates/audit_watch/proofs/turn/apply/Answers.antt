use Rattle.std.proofs.Common.{false, take}
use Rattle.audit_machine.specs.Moves.{steps_of}
use Rattle.audit_machine.proofs.Complete.{all_name_included}
use Rattle.audit_watch.proofs.turn.apply.Goals as goal

pub returns-in-Ok : goal.returns-in-Ok
returns-in-Ok c = record {
  steps = steps_of c.args.actions.now;
  segment = c.in-Ok.ensures.segment (λ _. false) (all_name_included c.args.actions.now);
  consistent = c.in-Ok.ensures.consistent;
  policy = c.in-Ok.ensures.policy;
}

pub returns-in-Err : goal.returns-in-Err
returns-in-Err c usable =
    let made = take c.in-Err.stop.place c.args.actions.now in
    let refused = c.in-Err.ensures.refused (c.error_of.ensures usable) in
    record {
      steps = steps_of made;
      segment = refused.0 (λ _. false) (all_name_included made);
      consistent = refused.1;
      policy = refused.2;
    }
