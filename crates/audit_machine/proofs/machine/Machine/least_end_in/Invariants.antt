use Rattle.std.proofs.Common.{◌≡◌, ◌≤◌, ◌<◌, ◌⊎◌, ℕ, Some}
use Rattle.std.specs.Prelude.{slice_get}
use Rattle.audit_model.specs.declared.sighting.Sighting.{Sighting}
use Rattle.audit_sightings.specs.Intake.{taken, interface_at}
use Rattle.audit_machine.specs.Counts.{count_of}
use Rattle.audit_machine.specs.Judged.{IsOpenUntil}
use Rattle.audit_machine.proofs.machine.Machine.least_end_in.Given as goal

abbrev pub invariant-sightings : goal.invariant-sightings
invariant-sightings l = record {
  from : count_of l.self.placed l.iface ≤ l.index;
  bound : l.least ≤ l.bound;
  each : (j : ℕ) (x : Sighting) → count_of l.self.placed l.iface ≤ j → j < l.index → slice_get (interface_at (taken l.intake) l.iface) j ≡ Some x → l.least ≤ x.hi;
  least : (l.least ≡ l.bound) ⊎ IsOpenUntil (taken l.intake) (count_of l.self.placed) l.least;
}
