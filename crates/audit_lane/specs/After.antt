-- The state of a lane after an event.
use Rattle.std.specs.Prelude.{ℕ, true, false, Option, Some, None, List, ◌++◌, nat_eq, option_map, option_to_list}
use Rattle.audit_model.specs.declared.event.At.{At}
use Rattle.audit_model.specs.declared.sighting.SightId.{SightId}
use Rattle.audit_model.specs.declared.verdict.Tenancy.{Tenancy}
use Rattle.audit_model.specs.Sames.{same_sight}
use Rattle.audit_rules.specs.Allocation.{Change, applied}
use Rattle.audit_rules.specs.Effect.{Standing}
use Rattle.audit_rules.specs.Said.{change_in}
use Rattle.audit_rules.specs.Tenancies.{running_after, ended_by}
use Rattle.audit_server.specs.State.{put}
use Rattle.audit_lane.specs.declared.noted.Arrival.{Arrival}
use Rattle.audit_lane.specs.declared.noted.Departure.{Departure}
use Rattle.audit_lane.specs.declared.noted.Owed.{Owed}
use Rattle.audit_lane.specs.Content.{Happening, Came, Acted, Went}
use Rattle.audit_lane.specs.Kept.{Terms, Kept, place_at, situation_in}

-- the first time that it arrives counts
abbrev pub came_first : (SightId → Option Arrival) → SightId → Arrival → Option Arrival → SightId → Option Arrival
came_first came sight arrival (Some first) = came
came_first came sight arrival None = put same_sight came sight (Some arrival)

abbrev pub new_arrival : Option ℕ → ℕ → Arrival
new_arrival user moment = record { moment = moment; user = user; acted = false }

-- the arrival, acted on
abbrev pub taken_up : Option Arrival → Option Arrival
taken_up arrival = option_map (λ a. record { moment = a.moment; user = a.user; acted = true }) arrival

-- the departure for an arrival, sent by the act at a place
abbrev pub departure_for : Option Arrival → ℕ → Option Departure
departure_for arrival place = option_map (λ a. record { arrived = a.moment; place = place }) arrival

abbrev pub came_after : Kept → Happening → SightId → Option Arrival
came_after kept (Came sighting user key) = came_first kept.came sighting.id (new_arrival user key.moment) (kept.came sighting.id)
came_after kept (Acted arrives leaves key) = put same_sight kept.came arrives.id (taken_up (kept.came arrives.id))
came_after kept (Went sighting key) = kept.came

abbrev pub gave_after : Kept → ℕ → Happening → SightId → Option Departure
gave_after kept place (Came sighting user key) = kept.gave
gave_after kept place (Acted arrives leaves key) = put same_sight kept.gave leaves.id (departure_for (kept.came arrives.id) place)
gave_after kept place (Went sighting key) = kept.gave

abbrev pub owed_without : (ℕ → Option Owed) → Option Departure → ℕ → Option Owed
owed_without owed None = owed
owed_without owed (Some sent) = put nat_eq owed sent.place None

abbrev pub owed_after : Terms → Kept → ℕ → Happening → ℕ → Option Owed
owed_after terms kept place (Came sighting user key) = kept.owed
owed_after terms kept place (Acted arrives leaves key) = put nat_eq kept.owed place (Some (record { at = place_at terms key place; sight = arrives.id }))
owed_after terms kept place (Went sighting key) = owed_without kept.owed (kept.gave sighting.id)

-- the client's table and its tenancy, after a change
abbrev pub changed : Terms → At → SightId → Change → Standing → Standing
changed terms at sight change standing = record standing {
  allocation = applied change standing.allocation;
  tenancy = running_after terms.policy.grace at sight change standing.tenancy;
}

abbrev pub standing_after : Terms → Kept → ℕ → Happening → Standing
standing_after terms kept place (Came sighting user key) = kept.standing
standing_after terms kept place (Acted arrives leaves key) =
    changed terms (place_at terms key place) arrives.id (change_in (situation_in terms kept arrives leaves key.moment)) kept.standing
standing_after terms kept place (Went sighting key) = kept.standing

abbrev pub ended_after : Terms → Kept → Happening → List Tenancy
ended_after terms kept (Came sighting user key) = kept.ended
ended_after terms kept (Acted arrives leaves key) =
    kept.ended ++ option_to_list (ended_by key (change_in (situation_in terms kept arrives leaves key.moment)) kept.standing.tenancy)
ended_after terms kept (Went sighting key) = kept.ended

abbrev pub after : Terms → ℕ → Kept → Happening → Kept
after terms place kept event = record {
  standing = standing_after terms kept place event;
  came = came_after kept event;
  gave = gave_after kept place event;
  owed = owed_after terms kept place event;
  ended = ended_after terms kept event;
}
