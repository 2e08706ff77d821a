use Rattle.std.proofs.Common.{◌≡◌, length}
use Rattle.audit_sightings.specs.Intake.{taken}
use Rattle.audit_faults.specs.Reach.{AreExtents}
use Rattle.audit_faults.proofs.index.extents_by_interface.Given as goal

abbrev pub invariant-interfaces : goal.invariant-interfaces
invariant-interfaces l = record { size : length l.extents.items ≡ l.iface; is : AreExtents (taken l.intake) l.extents.items }
