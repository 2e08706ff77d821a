-- The departures that a lane owes, by the places of the acts, are those that its walk owes.
use Rattle.std.specs.Prelude.{◌≡◌, ◌<◌, ◌↔◌, ℕ, List, [], ◌∷◌, map, Option, Some, IsSome, Contains, option_map}
use Rattle.std.specs.List.{AllByRecursion}
use Rattle.audit_lane.specs.declared.noted.Departure.{Departure}
use Rattle.audit_lane.specs.Kept.{Kept}
use Rattle.audit_model.specs.declared.sighting.SightId.{SightId}
use Rattle.audit_prefix.specs.Walk.{Owing}

-- each is below all after it
abbrev pub Rise : List ℕ → Type 0
Rise [] = Unit {0}
Rise (x ∷ xs) = AllByRecursion (λ y. x < y) xs × Rise xs

abbrev pub places_of : List Owing → List ℕ
places_of owing = map (λ one. one.at.place) owing

-- The owing acts are those at the places where a departure is owed, in the order of the places,
-- which all come before the next place; and each departure was sent by an act at a place of its
-- own.
pub record Owes (place : ℕ) (kept : Kept) (owing : List Owing) : Type 0 where
  pub rising : Rise (places_of owing)
  pub all : (p : ℕ) → IsSome (kept.owed p) ↔ Contains (places_of owing) p
  pub gives : (one : Owing) → Contains owing one → option_map (λ d. d.place) (kept.gave one.gives) ≡ Some one.at.place
  pub before : (t : SightId) (d : Departure) → kept.gave t ≡ Some d → d.place < place
  pub apart : (t u : SightId) (d e : Departure) → kept.gave t ≡ Some d → kept.gave u ≡ Some e → d.place ≡ e.place → t ≡ u
