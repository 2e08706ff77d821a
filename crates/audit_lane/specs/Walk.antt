-- The walk of a lane, event by event, to its result.
use Rattle.std.specs.Prelude.{ℕ, ◌+◌, ◌≡◌, ◌≤◌, ◌⊎◌, ◌↔◌, Option, Some, None, List, [], ◌∷◌, ◌++◌, IsSome, Contains, length, option_to_list}
use Rattle.std.specs.List.Sorted.{IsStrictlySortedBy}
use Rattle.std.specs.Ordering.{nat_cmp}
use Rattle.audit_model.specs.declared.event.At.{At}
use Rattle.audit_model.specs.declared.event.Key.{Key}
use Rattle.audit_model.specs.declared.rule.Rule.{Rule}
use Rattle.audit_model.specs.declared.rule.Rule.TheVariants.{ActWithoutDeparture}
use Rattle.audit_model.specs.declared.sighting.SightId.{SightId}
use Rattle.audit_model.specs.declared.verdict.Breach.{Breach}
use Rattle.audit_model.specs.declared.verdict.Tenancy.{Tenancy}
use Rattle.audit_lane.specs.declared.noted.Owed.{Owed}
use Rattle.audit_lane.specs.After.{after}
use Rattle.audit_lane.specs.Content.{Happening, Came, Acted, Went, Judgement, Passes, Breaks}
use Rattle.audit_lane.specs.Faults.{BreaksRule, IsRight}
use Rattle.audit_lane.specs.Kept.{Terms, Kept, place_at}

abbrev pub key_at : Happening → Key
key_at (Came sighting user key) = key
key_at (Acted arrives leaves key) = key
key_at (Went sighting key) = key

-- for an act, its arrival
abbrev pub sight_at : Happening → SightId
sight_at (Came sighting user key) = sighting.id
sight_at (Acted arrives leaves key) = arrives.id
sight_at (Went sighting key) = sighting.id

abbrev pub breach_by : At → SightId → Rule → Breach
breach_by at sight rule = record { at = at; sight = sight; rule = rule; phase = 2 }

-- the event at a place shows this breach
pub record Shows (terms : Terms) (place : ℕ) (kept : Kept) (event : Happening) (breach : Breach) : Type 0 where
  pub rule : Rule
  pub breaks : BreaksRule terms kept event rule
  pub is : breach ≡ breach_by (place_at terms (key_at event) place) (sight_at event) rule

-- the first act whose departure has not left
pub record IsFirst (owed : ℕ → Option Owed) (one : Owed) : Type 0 where
  pub place : ℕ
  pub there : owed place ≡ Some one
  pub least : (other : ℕ) → IsSome (owed other) → place ≤ other

-- the number of acts whose departure has not left: their places, in rising order, are as many
pub record AreOwed (owed : ℕ → Option Owed) (count : ℕ) : Type 0 where
  pub places : List ℕ
  pub rising : IsStrictlySortedBy nat_cmp places
  pub all : (place : ℕ) → IsSome (owed place) ↔ Contains places place
  pub many : length places ≡ count

-- the breach at the end of a lane (S13), or none
abbrev pub EndsWith : Kept → Option Breach → Type 0
EndsWith kept None = (place : ℕ) → kept.owed place ≡ None
EndsWith kept (Some breach) = (one : Owed) × IsFirst kept.owed one × (breach ≡ breach_by one.at one.sight ActWithoutDeparture)

-- those that acts ended and the current one, in order of birth
abbrev pub tenancies_of : Kept → List Tenancy
tenancies_of kept = kept.ended ++ option_to_list kept.standing.tenancy

abbrev pub EndsIn : Kept → Judgement → Type 0
EndsIn kept (Breaks breach) = EndsWith kept (Some breach)
EndsIn kept (Passes tenancies) = EndsWith kept None × (tenancies ≡ tenancies_of kept)

-- The events from a place on, from the state before them: the breach of the first that shows one,
-- or else the result at the end.
abbrev pub WalksTo : Terms → ℕ → Kept → List Happening → Judgement → Type 0
WalksTo terms place kept [] judgement = EndsIn kept judgement
WalksTo terms place kept (event ∷ events) judgement =
    ((breach : Breach) × Shows terms place kept event breach × (judgement ≡ Breaks breach))
    ⊎ (IsRight terms kept event × WalksTo terms (place + 1) (after terms place kept event) events judgement)
