use Rattle.std.proofs.Common.{◌≤◌, length}
use Rattle.audit_sightings.specs.Intake.{taken}
use Rattle.audit_faults.specs.Leased.{Answers}
use Rattle.audit_faults.proofs.Keying.{NoneFrom}
use Rattle.audit_faults.proofs.requests.is_answered.Given as goal

-- none of the places of the key from here on is one
abbrev pub invariant-places : goal.invariant-places
invariant-places l = record {
  bound : l.place ≤ length l.answers.places.now;
  none : NoneFrom (taken l.intake) (Answers l.client l.request) l.key 0 18446744073709551615 l.answers.places.now l.place;
}

abbrev pub decreases-places : goal.decreases-places
decreases-places l = l.place
