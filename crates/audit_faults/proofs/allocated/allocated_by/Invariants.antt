use Rattle.std.proofs.Common.{◌≤◌, length}
use Rattle.audit_model.specs.declared.sighting.Sighting.{Sighting}
use Rattle.audit_sightings.specs.Intake.{taken}
use Rattle.audit_faults.specs.Grants.{Requests, Succeeds}
use Rattle.audit_faults.proofs.Keying.{NoneFrom}
use Rattle.audit_faults.proofs.allocated.allocated_by.Given as goal

-- none of the places of the key from here on is such a request
abbrev pub invariant-places : goal.invariant-places
invariant-places l = record {
  bound : l.place ≤ length l.requests_by_key.places.now;
  none : NoneFrom (taken l.intake) (λ (s : Sighting). Requests (taken l.intake).policy l.grant l.arrival l.departure s × Succeeds (taken l.intake).policy l.grant l.arrival s l.success) l.key 0 l.last l.requests_by_key.places.now l.place;
}

abbrev pub decreases-places : goal.decreases-places
decreases-places l = l.place
