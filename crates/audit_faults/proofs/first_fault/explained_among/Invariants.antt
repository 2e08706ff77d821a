use Rattle.std.proofs.Common.{ℕ, ◌≤◌, length}
use Rattle.audit_model.specs.declared.sighting.Sighting.{Sighting}
use Rattle.audit_keys.specs.KeyFor.{key_for}
use Rattle.audit_sightings.specs.Intake.{taken, interface_at}
use Rattle.audit_faults.specs.Explains.{Explains}
use Rattle.audit_faults.specs.Reach.{StandsAt}
use Rattle.audit_faults.proofs.first_fault.explained_among.Given as goal

-- none of those from here on explains it
abbrev pub invariant-places : goal.invariant-places
invariant-places l = record {
  bound : l.place ≤ length (interface_at (taken l.intake) l.iface);
  none : (k : ℕ) → l.place ≤ k → (x : Sighting) → StandsAt (interface_at (taken l.intake) l.iface) k x → Explains (taken l.intake) (key_for l.credentials) l.fault x l.departure → ⊥;
}

abbrev pub decreases-places : goal.decreases-places
decreases-places l = l.place
