-- Which tenancies are checked for clashes in a turn.
use Rattle.std.specs.Prelude.{ℕ, Bool, true, List, [], ◌++◌, Option, Some, None, option_to_list, slice_get, nat_lt, drop, length, min, if◌then◌else◌, ◌↔◌, Contains, map}
use Rattle.std.specs.List.{flat_map}
use Rattle.audit_model.specs.declared.event.Event.{Event}
use Rattle.audit_model.specs.declared.verdict.Tenancy.{Tenancy}
use Rattle.audit_lane.specs.Seen.{kept_of}
use Rattle.audit_live.specs.declared.holders.Holders.{Holders}
use Rattle.audit_live.specs.declared.lane.LiveLane.{LiveLane}
use Rattle.audit_live.specs.Holding.{runs_in, held_in}

-- past the last horizon, if there was one
abbrev pub is_past_last : Option ℕ → ℕ → Bool
is_past_last None moment = true
is_past_last (Some last) moment = nat_lt last moment

-- the tenancies of a lane that ended after it was last checked, and the current one
abbrev pub fresh_of : LiveLane → List Tenancy
fresh_of lane = drop (min lane.checked (length (kept_of lane.state).ended)) (kept_of lane.state).ended ++ option_to_list (runs_in lane)

abbrev pub fresh_at : List LiveLane → ℕ → List Tenancy
fresh_at lanes number = flat_map fresh_of (option_to_list (slice_get lanes number))

-- the current tenancy of the lane that is noted for the address of a tenancy born past the last
-- horizon
abbrev pub held_by : List LiveLane → Holders → Option ℕ → Tenancy → List Tenancy
held_by lanes holders last tenancy = if is_past_last last tenancy.born.key.moment then option_to_list (held_in lanes holders tenancy.relayed) else []

abbrev pub checked_of : List LiveLane → Holders → Option ℕ → List ℕ → List Tenancy
checked_of lanes holders last touched =
    flat_map (fresh_at lanes) touched ++ flat_map (held_by lanes holders last) (flat_map (fresh_at lanes) touched)

-- the lanes that have events
abbrev pub AreTouched : List (ℕ × Event) → List ℕ → Type 0
AreTouched events touched = (number : ℕ) → Contains touched number ↔ Contains (map (λ event. event.0) events) number
