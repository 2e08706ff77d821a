use Rattle.std.proofs.Common.{◌≤◌, length}
use Rattle.audit_sightings.specs.Intake.{taken}
use Rattle.audit_faults.specs.Beginning.{Begins}
use Rattle.audit_faults.proofs.Repeating.{OnlyWithEarlier}
use Rattle.audit_faults.proofs.begun.begun_by.Given as goal

-- a place of the key from here on did only where one before it did
abbrev pub invariant-places : goal.invariant-places
invariant-places l = record {
  bound : l.past ≤ length l.arrivals.by_key.places.now;
  none : OnlyWithEarlier (taken l.intake) (Begins (taken l.intake) l.fault l.left.hi l.departure) l.key l.first l.departure.hi l.span.first l.arrivals.by_key.places.now l.past;
}

abbrev pub decreases-places : goal.decreases-places
decreases-places l = l.past
