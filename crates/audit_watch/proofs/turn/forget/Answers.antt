use Rattle.std.proofs.Common.{false, [], refl}
use Rattle.audit_sightings.specs.Intake.{sighting_at}
use Rattle.audit_watch.proofs.Watching.{follows_itself}
use Rattle.audit_watch.proofs.turn.forget.Goals as goal

pub returns-in_err-note : goal.returns-in_err-note
returns-in_err-note c of keys = follows_itself of keys c.args.machine.now c.args.machine.now refl c.requires

pub returns : goal.returns
returns c of keys = record {
  steps = [];
  segment = c.forget.ensures.segment keys (sighting_at of) (λ _. false);
  consistent = c.forget.ensures.consistent;
  policy = c.forget.ensures.policy;
}
