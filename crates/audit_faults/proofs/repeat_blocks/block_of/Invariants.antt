use Rattle.audit_sightings.specs.Intake.{taken}
use Rattle.audit_faults.specs.RepeatBlocks.{IsBlock}
use Rattle.audit_faults.proofs.repeat_blocks.block_of.Given as goal

abbrev pub invariant-merges : goal.invariant-merges
invariant-merges l = IsBlock (taken l.intake) l.places l.place l.block

abbrev pub decreases-merges : goal.decreases-merges
decreases-merges l = l.block.first
