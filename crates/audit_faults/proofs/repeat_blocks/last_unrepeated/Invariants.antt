use Rattle.std.proofs.Common.{◌≤◌}
use Rattle.audit_sightings.specs.Intake.{taken}
use Rattle.audit_faults.specs.RepeatBlocks.{AreRepeatedInReach}
use Rattle.audit_faults.proofs.repeat_blocks.last_unrepeated.Given as goal

abbrev pub invariant-skips : goal.invariant-skips
invariant-skips l = record {
  bound : l.place ≤ l.past;
  others : AreRepeatedInReach (taken l.intake) l.arrivals.by_key.places.now l.departure l.first l.place l.past;
}

abbrev pub decreases-skips : goal.decreases-skips
decreases-skips l = l.place
