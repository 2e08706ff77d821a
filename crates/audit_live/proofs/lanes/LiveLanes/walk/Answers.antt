use Rattle.std.proofs.Common.{refl, ◌∙◌, arith}
use Rattle.audit_keys.specs.KeyFor.{key_for}
use Rattle.audit_sightings.specs.Intake.{taken}
use Rattle.audit_live.proofs.Walking.{walks_none, walks_next}
use Rattle.audit_live.proofs.lanes.LiveLanes.walk.Goals as goal

pub events-init : goal.events-init
events-init c = record { walks = walks_none (taken c.args.intake.now) (key_for c.args.credentials.now) c.args.self.now; count = refl }

pub step-requires-clause-number : goal.step-requires-clause-number
step-requires-clause-number c = rw c.events.invariant.count (c.requires.numbers c.events.number-index _ (omega arith))

pub events-preserved : goal.events-preserved
events-preserved c = record {
  walks = rw c.least-least.ensures (walks_next (taken c.args.intake.now) (key_for c.args.credentials.now) c.args.self.now c.events.self c.step.new.self c.args.events.now c.events.number-index _
      c.in_ok-breach.breach c.events.least (omega arith) c.events.invariant.walks c.in_ok-breach.ensures.steps);
  count = c.step.ensures.count ∙ c.events.invariant.count;
}
