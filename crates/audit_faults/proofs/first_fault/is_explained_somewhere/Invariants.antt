use Rattle.audit_keys.specs.KeyFor.{key_for}
use Rattle.audit_sightings.specs.Intake.{taken}
use Rattle.audit_faults.specs.Explains.{Explains}
use Rattle.audit_faults.proofs.Captured.{NoneBelow}
use Rattle.audit_faults.proofs.first_fault.is_explained_somewhere.Given as goal

abbrev pub invariant-interfaces : goal.invariant-interfaces
invariant-interfaces l = NoneBelow (taken l.intake) (λ arrival. Explains (taken l.intake) (key_for l.credentials) l.fault arrival l.departure) l.iface
