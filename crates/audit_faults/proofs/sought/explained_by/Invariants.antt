use Rattle.std.proofs.Common.{◌≤◌, length}
use Rattle.audit_model.specs.declared.sighting.Sighting.{Sighting}
use Rattle.audit_keys.specs.KeyFor.{key_for}
use Rattle.audit_sightings.specs.Intake.{taken}
use Rattle.audit_faults.specs.Explains.{Explains}
use Rattle.audit_faults.proofs.Repeating.{OnlyWithEarlier}
use Rattle.audit_faults.proofs.sought.explained_by.Given as goal

-- a place of the key from here on explains it only where one before it does
abbrev pub invariant-places : goal.invariant-places
invariant-places l = record {
  bound : l.past ≤ length l.arrivals.by_key.places.now;
  none : OnlyWithEarlier (taken l.intake) (λ (s : Sighting). Explains (taken l.intake) (key_for l.credentials) l.fault s l.departure) l.key l.first l.departure.hi l.span.first l.arrivals.by_key.places.now l.past;
}

abbrev pub decreases-places : goal.decreases-places
decreases-places l = l.past
