use Rattle.std.proofs.Common.{◌≡◌, ◌<◌, ℕ, Some, length}
use Rattle.std.specs.Prelude.{slice_index_or}
use Rattle.audit_model.specs.declared.address.Addr.{Addr}
use Rattle.audit_model.specs.declared.sighting.Sighting.{Sighting}
use Rattle.audit_sightings.specs.Intake.{taken, sighting_at}
use Rattle.audit_faults.specs.declared.keyed.Keyed.{Keyed}
use Rattle.audit_faults.specs.Leased.{beginning_key}
use Rattle.audit_faults.specs.Pairs.{Allocates, ArePaired}
use Rattle.audit_faults.proofs.pairs.add_all.Given as goal

-- the places so far have their pairs
abbrev pub invariant-places : goal.invariant-places
invariant-places l =
    (k : ℕ) (one : Keyed) → k < l.place → k < length l.answers.places.now → slice_index_or l.answers.places.now k one ≡ one → (success : Sighting) → sighting_at (taken l.intake) one.sight ≡ Some success →
    one.key ≡ beginning_key success.to → (client relayed : Addr) → Allocates client relayed success → ArePaired l.pairs.items client relayed
