use Rattle.audit_keys.specs.KeyFor.{key_for}
use Rattle.audit_sightings.specs.Intake.{taken}
use Rattle.audit_faults.specs.Shown.{AreFaultsBefore}
use Rattle.audit_faults.proofs.every.add_of_interface.Given as goal

abbrev pub invariant-sightings : goal.invariant-sightings
invariant-sightings l = AreFaultsBefore (taken l.intake) (key_for l.credentials) (record { iface = l.iface; index = l.sighting-index }) l.faults.items
