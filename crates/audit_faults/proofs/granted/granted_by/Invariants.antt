use Rattle.std.proofs.Common.{◌≤◌, length}
use Rattle.audit_model.specs.declared.sighting.Sighting.{Sighting}
use Rattle.audit_sightings.specs.Intake.{taken}
use Rattle.audit_faults.specs.Grants.{IsGranted}
use Rattle.audit_faults.proofs.Keying.{NoneFrom}
use Rattle.audit_faults.proofs.granted.granted_by.Given as goal

-- none of the places of the key from here on has one
abbrev pub invariant-places : goal.invariant-places
invariant-places l = record {
  bound : l.place ≤ length l.listed.requests.places.now;
  none : NoneFrom (taken l.intake) (λ (s : Sighting). IsGranted (taken l.intake) l.grant l.arrival l.departure s) l.key l.first l.departure.hi l.listed.requests.places.now l.place;
}

abbrev pub decreases-places : goal.decreases-places
decreases-places l = l.place
