use Rattle.std.proofs.Common.{◌≡◌, ◌<◌, true}
use Rattle.std.specs.Prelude.{is_some}
use Rattle.audit_model.specs.declared.sighting.SightId.{SightId}
use Rattle.audit_sightings.specs.Intake.{taken, sighting_at}
use Rattle.audit_segments.specs.Alike.{is_placed}
use Rattle.audit_machine.specs.Counts.{count_of}
use Rattle.audit_machine.proofs.machine.Machine.has_placed.Given as goal

abbrev pub invariant-interfaces : goal.invariant-interfaces
invariant-interfaces l = (s : SightId) → s.iface < l.iface → is_placed (count_of l.self.placed) s ≡ true → is_some (sighting_at (taken l.intake) s) ≡ true
