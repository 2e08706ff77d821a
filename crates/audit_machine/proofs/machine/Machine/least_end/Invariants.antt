use Rattle.std.proofs.Common.{◌≡◌, ◌≤◌, ◌<◌, ◌⊎◌, ℕ, Some, false}
use Rattle.audit_model.specs.declared.sighting.SightId.{SightId}
use Rattle.audit_model.specs.declared.sighting.Sighting.{Sighting}
use Rattle.audit_sightings.specs.Intake.{taken, sighting_at}
use Rattle.audit_segments.specs.Alike.{is_placed}
use Rattle.audit_machine.specs.Counts.{count_of}
use Rattle.audit_machine.specs.Judged.{IsOpenUntil}
use Rattle.audit_machine.proofs.machine.Machine.least_end.Given as goal

abbrev pub invariant-interfaces : goal.invariant-interfaces
invariant-interfaces l = record {
  bound : l.least ≤ l.bound;
  each : (s : SightId) (x : Sighting) → s.iface < l.iface → sighting_at (taken l.intake) s ≡ Some x → is_placed (count_of l.self.placed) s ≡ false → l.least ≤ x.hi;
  least : (l.least ≡ l.bound) ⊎ IsOpenUntil (taken l.intake) (count_of l.self.placed) l.least;
}
