-- What an event goes by, where its sightings are there.
use Rattle.std.proofs.Common.{◌≡◌, ℕ, [], ◌∷◌, Some, None, refl, subst}
use Rattle.std.specs.Prelude.{Result, Ok, Err, OnOk, IfErr}
use Rattle.audit_model.specs.declared.event.Event.{Event}
use Rattle.audit_model.specs.declared.policy.Policy.{Policy}
use Rattle.audit_model.specs.declared.event.Event.TheVariants.{In, Act, Out}
use Rattle.audit_model.specs.declared.event.Key.{Key}
use Rattle.audit_model.specs.declared.sighting.SightId.{SightId}
use Rattle.audit_model.specs.declared.sighting.Sighting.{Sighting}
use Rattle.audit_rules.specs.declared.credentials.CredRow.{CredRow}
use Rattle.audit_rules.specs.Keys.{KeyFor}
use Rattle.audit_sightings.specs.Intake.{Taken, sighting_at}
use Rattle.audit_lane.specs.declared.fault.LaneFault.{LaneFault}
use Rattle.audit_lane.specs.declared.fault.LaneFault.TheVariants.{Broken, Memory}
use Rattle.audit_lane.specs.declared.state.LaneState.{LaneState}
use Rattle.audit_lane.specs.After.{after}
use Rattle.audit_lane.specs.Content.{Came, Acted, Went}
use Rattle.audit_lane.specs.Faults.{IsRight}
use Rattle.audit_lane.specs.Seen.{IsShown, SameKept, kept_of, terms_by}
use Rattle.audit_lane.specs.Walk.{Shows}
use Rattle.audit_live.specs.Steps.{GoesOn, IsRowOf, Meaning, Stops}

module _ (taken : Taken) (key_for : KeyFor) (number : ℕ) (key : Key) where
  abbrev pub arrival : (sight : SightId) (sighting : Sighting) → sighting_at taken sight ≡ Some sighting → Meaning taken key_for number (In sight key)
  arrival sight sighting there = record { happens = Came sighting (Some 0) key; from = (there, refl); rows = []; named = refl }

  abbrev pub departure : (sight : SightId) (sighting : Sighting) → sighting_at taken sight ≡ Some sighting → Meaning taken key_for number (Out sight key)
  departure sight sighting there = record { happens = Went sighting key; from = (there, refl); rows = []; named = tt }

  abbrev pub act_by : (sight gives : SightId) (arrives leaves : Sighting) (row : CredRow) → sighting_at taken sight ≡ Some arrives → sighting_at taken gives ≡ Some leaves
      → IsRowOf key_for arrives.payload (Some row) → Meaning taken key_for number (Act sight gives key)
  act_by sight gives arrives leaves row there gives_there named =
      record { happens = Acted arrives leaves key; from = (there, gives_there, refl); rows = row ∷ []; named = (Some row, refl, named) }

  abbrev pub act_by_nobody : (sight gives : SightId) (arrives leaves : Sighting) → sighting_at taken sight ≡ Some arrives → sighting_at taken gives ≡ Some leaves
      → IsRowOf key_for arrives.payload None → Meaning taken key_for number (Act sight gives key)
  act_by_nobody sight gives arrives leaves there gives_there named =
      record { happens = Acted arrives leaves key; from = (there, gives_there, refl); rows = []; named = (None, refl, named) }

module _ (taken : Taken) (key_for : KeyFor) (number place : ℕ) (event : Event) (old : LaneState) (policy : Policy) (same : policy ≡ taken.policy) (m : Meaning taken key_for number event) where
  pub goes_by : (new : LaneState) (result : Result (Unit {0}) LaneFault) → OnOk result (IsRight (terms_by number policy m.rows) (kept_of old) m.happens)
      → OnOk result (SameKept (kept_of new) (after (terms_by number policy m.rows) place (kept_of old) m.happens)) → OnOk result (GoesOn taken key_for number place event old new)
  goes_by new (Ok done) right kept = (
    m,
    subst (λ (p : Policy). IsRight (terms_by number p m.rows) (kept_of old) m.happens) same right,
    subst (λ (p : Policy). SameKept (kept_of new) (after (terms_by number p m.rows) place (kept_of old) m.happens)) same kept,
  )
  goes_by new (Err fault) right kept = tt

  pub stops_by : (result : Result (Unit {0}) LaneFault) → IfErr result (λ fault. IsShown fault (Shows (terms_by number policy m.rows) place (kept_of old) m.happens))
      → IfErr result (λ fault. IsShown fault (Stops taken key_for number place event old))
  stops_by (Ok done) shown = tt
  stops_by (Err (Broken breach)) shown = (m, subst (λ (p : Policy). Shows (terms_by number p m.rows) place (kept_of old) m.happens breach) same shown)
  stops_by (Err Memory) shown = tt
