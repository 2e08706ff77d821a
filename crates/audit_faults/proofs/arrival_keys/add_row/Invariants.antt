use Rattle.audit_sightings.specs.Intake.{taken}
use Rattle.audit_faults.specs.ArrivalKeys.{IsArrivalBy}
use Rattle.audit_faults.specs.Keyed.{AreKeyedBefore}
use Rattle.audit_faults.proofs.arrival_keys.add_row.Given as goal

abbrev pub invariant-sightings : goal.invariant-sightings
invariant-sightings l = AreKeyedBefore (taken l.intake) (IsArrivalBy (taken l.intake).policy) (record { iface = l.iface; index = l.sighting-index }) l.keyed.items l.widest
