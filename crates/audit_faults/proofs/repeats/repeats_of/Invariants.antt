use Rattle.std.proofs.Common.{◌≡◌, length}
use Rattle.audit_sightings.specs.Intake.{taken}
use Rattle.audit_faults.specs.Repeats.{AreRepeats}
use Rattle.audit_faults.proofs.repeats.repeats_of.Given as goal

-- the places so far have what they repeat
abbrev pub invariant-places : goal.invariant-places
invariant-places l = record {
  count : length l.repeats.items ≡ l.place;
  are : AreRepeats (taken l.intake) l.places l.repeats.items;
}
