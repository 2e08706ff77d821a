use Rattle.audit_sightings.specs.Intake.{taken}
use Rattle.audit_watch.proofs.Watching.{conforms}
use Rattle.audit_watch.proofs.watch.Watch.conforms_up_to.Goals as goal

pub returns-clause-conforms : goal.returns-clause-conforms
returns-clause-conforms c all key_for captured claim = conforms all (taken c.args.intake.now) key_for c.args.self.now captured c.judged_up_to.result c.judged_up_to.ensures.judged claim
