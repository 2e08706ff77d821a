use Rattle.audit_sightings.specs.Intake.{taken}
use Rattle.audit_watch.proofs.Watching.{headline}
use Rattle.audit_watch.proofs.watch.Watch.is_complete.Goals as goal

pub returns : goal.returns
returns c whole all key_for captured claim = headline all (taken c.args.intake.now) key_for c.args.self.now captured (c.is_complete.ensures.placed whole) (c.is_complete.ensures.owed whole) claim
