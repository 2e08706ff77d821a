use Rattle.audit_sightings.specs.Intake.{taken}
use Rattle.audit_faults.specs.ArrivalKeys.{IsArrivalBy}
use Rattle.audit_faults.specs.Keyed.{AreKeyedBefore}
use Rattle.audit_faults.proofs.arrival_keys.add_rows.Given as goal

abbrev pub invariant-interfaces : goal.invariant-interfaces
invariant-interfaces l = AreKeyedBefore (taken l.intake) (IsArrivalBy (taken l.intake).policy) (record { iface = l.iface; index = 0 }) l.keyed.items l.width
