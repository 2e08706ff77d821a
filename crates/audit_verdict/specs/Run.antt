-- A lane as steps of the server.
use Rattle.std.specs.Prelude.{ℕ, ◌+◌, ◌≡◌, ◌≢◌, ◌≤◌, ◌↔◌, List, [], ◌∷◌, map, Option, Some}
use Rattle.std.specs.List.{All, AllByRecursion}
use Rattle.audit_model.specs.declared.pair.Pair.{Pair}
use Rattle.audit_model.specs.declared.sighting.SightId.{SightId}
use Rattle.audit_model.specs.declared.sighting.Sighting.{Sighting}
use Rattle.audit_model.specs.declared.verdict.Tenancy.{Tenancy}
use Rattle.audit_rules.specs.Keys.{KeyFor}
use Rattle.audit_server.specs.Captured.{rules_of}
use Rattle.audit_server.specs.Placed.{Placed, step_of}
use Rattle.audit_server.specs.Rules.{Rules}
use Rattle.audit_server.specs.Run.{IsRun}
use Rattle.audit_server.specs.Step.{Move, In, Act, Out}
use Rattle.audit_server.specs.Tenancies.{tenancies_in}
use Rattle.audit_lane.specs.Content.{Content, Happening, Came, Acted, Went, Passes}
use Rattle.audit_lane.specs.Judged.{IsJudged, terms_of}
use Rattle.audit_lane.specs.Kept.{Terms, place_at}
use Rattle.audit_lane.specs.UserRows.{Tells}
use Rattle.audit_lane.specs.Walk.{key_at}

abbrev pub pair_in : Content → Pair
pair_in content = record { client = content.client; listen = content.listen }

abbrev pub move_of : Pair → Happening → Move
move_of pair (Came sighting user key) = In sighting.id
move_of pair (Acted arrives leaves key) = Act pair arrives.id leaves.id
move_of pair (Went sighting key) = Out sighting.id

abbrev pub placed_at : Terms → Pair → ℕ → Happening → Placed
placed_at terms pair place event = record { at = place_at terms (key_at event) place; move = move_of pair event }

-- the events from a place on, as the server's steps
abbrev pub placed_from : Terms → Pair → ℕ → List Happening → List Placed
placed_from terms pair place [] = []
placed_from terms pair place (event ∷ events) = placed_at terms pair place event ∷ placed_from terms pair (place + 1) events

-- its sightings are those of their ids
abbrev pub IsKnown : (SightId → Option Sighting) → Happening → Type 0
IsKnown sighting (Came s user key) = sighting s.id ≡ Some s
IsKnown sighting (Acted arrives leaves key) = (sighting arrives.id ≡ Some arrives) × (sighting leaves.id ≡ Some leaves)
IsKnown sighting (Went s key) = sighting s.id ≡ Some s

-- two events don't place one sighting
abbrev pub PlaceApart : Happening → Happening → Type 0
PlaceApart (Came s user key) (Came t other later) = s.id ≢ t.id
PlaceApart (Came s user key) (Acted arrives leaves later) = Unit {0}
PlaceApart (Came s user key) (Went t later) = Unit {0}
PlaceApart (Acted arrives leaves key) event = Unit {0}
PlaceApart (Went s key) (Came t user later) = Unit {0}
PlaceApart (Went s key) (Acted arrives leaves later) = Unit {0}
PlaceApart (Went s key) (Went t later) = s.id ≢ t.id

-- each sighting is placed at most once
abbrev pub PlacedOnce : List Happening → Type 0
PlacedOnce [] = Unit {0}
PlacedOnce (event ∷ events) = AllByRecursion (PlaceApart event) events × PlacedOnce events

-- no moment is before the one before it
abbrev pub MomentsRise : ℕ → List Happening → Type 0
MomentsRise now [] = Unit {0}
MomentsRise now (event ∷ events) = (now ≤ (key_at event).moment) × MomentsRise (key_at event).moment events

abbrev pub steps_in : Content → List Placed
steps_in content = placed_from (terms_of content) (pair_in content) 0 content.events

-- If each sighting is placed at most once and moments rise, a lane whose requests have their users
-- passes with these tenancies exactly if it is a run of the server that has this client alone, and
-- these are the tenancies of that run.
abbrev pub PassesAsRun : Content → Type 0
PassesAsRun content = (key_for : KeyFor) (sighting : SightId → Option Sighting) →
    All (Tells key_for content.users) content.events → AllByRecursion (IsKnown sighting) content.events →
    PlacedOnce content.events → MomentsRise 0 content.events → (tenancies : List Tenancy) →
    let rules : Rules = rules_of content.policy key_for sighting in
    IsJudged content (Passes tenancies) ↔ (IsRun rules (map step_of (steps_in content)) × (tenancies ≡ tenancies_in rules (steps_in content)))
