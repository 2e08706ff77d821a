use Rattle.std.proofs.Common.{◌≡◌, length}
use Rattle.audit_sightings.specs.Intake.{taken}
use Rattle.audit_faults.specs.RepeatBlocks.{AreBlocks}
use Rattle.audit_faults.proofs.repeat_blocks.blocks_of.Given as goal

-- the places so far have their blocks
abbrev pub invariant-places : goal.invariant-places
invariant-places l = record {
  count : length l.blocks.items ≡ l.place;
  are : AreBlocks (taken l.intake) l.places l.blocks.items;
}
