use Rattle.std.proofs.Common.{◌≤◌, length}
use Rattle.audit_model.specs.declared.sighting.Sighting.{Sighting}
use Rattle.audit_sightings.specs.Intake.{taken}
use Rattle.audit_faults.specs.Grants.{Succeeds}
use Rattle.audit_faults.proofs.Keying.{NoneFrom}
use Rattle.audit_faults.proofs.granted.is_succeeded.Given as goal

-- none of the places of the key from here on has it
abbrev pub invariant-places : goal.invariant-places
invariant-places l = record {
  bound : l.place ≤ length l.answers.places.now;
  none : NoneFrom (taken l.intake) (λ (s : Sighting). Succeeds (taken l.intake).policy l.grant l.arrival l.request s) l.key l.first 18446744073709551615 l.answers.places.now l.place;
}

abbrev pub decreases-places : goal.decreases-places
decreases-places l = l.place
