use Rattle.audit_sightings.specs.Intake.{taken}
use Rattle.audit_faults.specs.Leased.{IsRequestBy}
use Rattle.audit_faults.specs.Keyed.{AreKeyedBefore}
use Rattle.audit_faults.proofs.requests.add_rows.Given as goal

abbrev pub invariant-interfaces : goal.invariant-interfaces
invariant-interfaces l = AreKeyedBefore (taken l.intake) (IsRequestBy (taken l.intake)) (record { iface = l.iface; index = 0 }) l.keyed.items l.width
