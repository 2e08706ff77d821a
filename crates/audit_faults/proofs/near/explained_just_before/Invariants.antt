use Rattle.std.proofs.Common.{◌≤◌, length}
use Rattle.audit_sightings.specs.Intake.{taken, interface_at}
use Rattle.audit_faults.proofs.near.explained_just_before.Given as goal

abbrev pub invariant-places : goal.invariant-places
invariant-places l = l.place ≤ length (interface_at (taken l.intake) l.iface)

abbrev pub decreases-places : goal.decreases-places
decreases-places l = l.place
