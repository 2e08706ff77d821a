use Rattle.audit_keys.specs.KeyFor.{key_for}
use Rattle.audit_sightings.specs.Intake.{taken}
use Rattle.audit_faults.specs.Shown.{AreFaultsBefore}
use Rattle.audit_faults.proofs.every.shown_faults.Given as goal

abbrev pub invariant-interfaces : goal.invariant-interfaces
invariant-interfaces l = AreFaultsBefore (taken l.intake) (key_for l.credentials) (record { iface = l.iface; index = 0 }) l.faults.items
