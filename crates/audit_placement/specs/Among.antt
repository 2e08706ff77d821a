-- Breaches of entries without an order: which one is earlier, and which is first, depends on lane
-- and place alone.
use Rattle.std.specs.Prelude.{◌≡◌, ◌⊎◌, ◌↔◌, ◌<◌, Bool, true, List, Contains}
use Rattle.audit_model.specs.declared.event.At.{At}
use Rattle.audit_model.specs.declared.sighting.SightId.{SightId}
use Rattle.audit_model.specs.declared.verdict.Breach.{Breach}
use Rattle.audit_sightings.specs.Intake.{Taken}
use Rattle.audit_placement.specs.declared.entry.Entry.{Entry}
use Rattle.audit_placement.specs.Checks.{IsOneOf, event_checks}
use Rattle.audit_placement.specs.FirstPlace.{places}

abbrev pub ComesBefore : At → At → Type 0
ComesBefore one other = (one.lane < other.lane) ⊎ ((one.lane ≡ other.lane) × (one.place < other.place))

-- another entry, that comes before, places the same sighting
pub record IsPlacedBefore (entries : List Entry) (entry : Entry) : Type 0 where
  pub other : Entry
  pub there : Contains entries other
  pub before : ComesBefore other.at entry.at
  pub sight : SightId
  pub places_it : places other.event sight ≡ true
  pub as_this : places entry.event sight ≡ true

-- a rule that one of the entries breaks
pub record ShowsAmong (taken : Taken) (entries : List Entry) (breach : Breach) : Type 0 where
  pub entry : Entry
  pub there : Contains entries entry
  pub placed : Bool
  pub tells : (placed ≡ true) ↔ IsPlacedBefore entries entry
  pub broken : IsOneOf (event_checks taken placed entry.pair entry.last entry.event) entry.at breach

-- an entry places the sighting there, and none that places it comes before
pub record IsFirst (entries : List Entry) (sight : SightId) (at : At) : Type 0 where
  pub entry : Entry
  pub there : Contains entries entry
  pub places_it : places entry.event sight ≡ true
  pub is_at : entry.at ≡ at
  pub none_before : (other : Entry) → Contains entries other → places other.event sight ≡ true → ¬ ComesBefore other.at at
