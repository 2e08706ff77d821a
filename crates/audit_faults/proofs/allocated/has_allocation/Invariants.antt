use Rattle.std.proofs.Common.{◌≤◌, ◌-◌}
use Rattle.audit_sightings.specs.Intake.{taken}
use Rattle.audit_faults.proofs.Keying.{NoneTo}
use Rattle.audit_faults.proofs.Leasing.{IsAllocatedBy}
use Rattle.audit_faults.proofs.allocated.has_allocation.Given as goal

-- none of the places of the key before this one has one
abbrev pub invariant-places : goal.invariant-places
invariant-places l = record {
  order : l.span.first ≤ l.place;
  none : NoneTo (taken l.intake) (IsAllocatedBy (taken l.intake) l.grant l.arrival l.departure) l.key 0 18446744073709551615 l.answers.places.now l.place;
}

abbrev pub decreases-places : goal.decreases-places
decreases-places l = l.span.past - l.place
