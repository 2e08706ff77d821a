-- A lane and its next event.
use Rattle.std.specs.Prelude.{◌≡◌, ℕ, ◌+◌, min, List, Option, Some, None, false, true, MatchOption, ◌⊎◌, option_to_list}
use Rattle.audit_model.specs.declared.address.Addr.{Addr}
use Rattle.audit_model.specs.declared.event.Event.{Event}
use Rattle.audit_model.specs.declared.verdict.Breach.{Breach}
use Rattle.audit_rules.specs.declared.credentials.CredRow.{CredRow}
use Rattle.audit_rules.specs.Keys.{KeyFor}
use Rattle.audit_rules.specs.Named.{Names, RequestNamesNobody}
use Rattle.audit_sightings.specs.Intake.{Taken}
use Rattle.audit_lane.specs.declared.state.LaneState.{LaneState}
use Rattle.audit_lane.specs.After.{after}
use Rattle.audit_lane.specs.Content.{Happening, Came, Acted, Went}
use Rattle.audit_lane.specs.Faults.{IsRight}
use Rattle.audit_lane.specs.Kept.{at_first}
use Rattle.audit_lane.specs.Named.{IsFrom}
use Rattle.audit_lane.specs.Seen.{SameKept, kept_of, terms_by}
use Rattle.audit_lane.specs.Walk.{AreOwed, Shows}
use Rattle.audit_live.specs.declared.lane.LiveLane.{LiveLane}

-- the row of the user that a payload names, with the key of the credentials; None if it is no
-- request, or names nobody
abbrev pub IsRowOf : KeyFor → List ℕ → Option CredRow → Type 0
IsRowOf key_for payload named = MatchOption named (RequestNamesNobody key_for payload) (λ row. Names key_for payload row.user.now row.realm.now row.key)

-- an act uses the row of the user that its request names, which each arrival has as the first
abbrev pub AreRowsOf : KeyFor → Happening → List CredRow → Type 0
AreRowsOf key_for (Came sighting user key) rows = user ≡ Some 0
AreRowsOf key_for (Acted arrives leaves key) rows = (named : Option CredRow) × (rows ≡ option_to_list named) × IsRowOf key_for arrives.payload named
AreRowsOf key_for (Went sighting key) rows = Unit {0}

-- what an event of a lane means
pub record Meaning (taken : Taken) (key_for : KeyFor) (number : ℕ) (event : Event) : Type 0 where
  pub happens : Happening
  pub from : IsFrom taken event happens
  pub rows : List CredRow
  pub named : AreRowsOf key_for happens rows

-- the event at that place may come, and is applied
abbrev pub GoesOn : Taken → KeyFor → ℕ → ℕ → Event → LaneState → LaneState → Type 0
GoesOn taken key_for number place event old new =
    (meaning : Meaning taken key_for number event)
    × IsRight (terms_by number taken.policy meaning.rows) (kept_of old) meaning.happens
    × SameKept (kept_of new) (after (terms_by number taken.policy meaning.rows) place (kept_of old) meaning.happens)

-- it shows this breach
abbrev pub Stops : Taken → KeyFor → ℕ → ℕ → Event → LaneState → Breach → Type 0
Stops taken key_for number place event old breach =
    (meaning : Meaning taken key_for number event)
    × Shows (terms_by number taken.policy meaning.rows) place (kept_of old) meaning.happens breach

-- the number of departures that the lane owes, up to the greatest number of its type
abbrev pub IsOwing : LiveLane → Type 0
IsOwing lane = (count : ℕ) × AreOwed (kept_of lane.state).owed count × (lane.owes ≡ min count 4294967295)

-- nothing came yet
pub record IsNew (number : ℕ) (pair : Addr × Addr) (lane : LiveLane) : Type 0 where
  pub state : SameKept (kept_of lane.state) (at_first (record { client = pair.0; listen = pair.1; lane = number; allocation = None; tenancy = None }))
  pub number' : lane.number ≡ number
  pub steps : lane.steps ≡ 0
  pub checked : lane.checked ≡ 0
  pub owes : lane.owes ≡ 0
  pub broken : lane.broken ≡ false

-- one more event was applied
pub record IsStepped (taken : Taken) (key_for : KeyFor) (old : LiveLane) (event : Event) (new : LiveLane) : Type 0 where
  pub whole : old.broken ≡ false
  pub goes_on : GoesOn taken key_for old.number old.steps event old.state new.state
  pub owing : IsOwing new
  pub rest : new ≡ record old { state = new.state; steps = min (old.steps + 1) 4294967295; owes = new.owes }

-- the event broke a rule
pub record IsBroken (taken : Taken) (key_for : KeyFor) (old : LiveLane) (event : Event) (new : LiveLane) (breach : Breach) : Type 0 where
  pub whole : old.broken ≡ false
  pub stops : Stops taken key_for old.number old.steps event old.state breach
  pub rest : new ≡ record old { state = new.state; broken = true }

-- the result of the lane's next event; a lane that has shown a breach shows no other
abbrev pub Steps : Taken → KeyFor → LiveLane → Event → LiveLane → Option Breach → Type 0
Steps taken key_for old event new None = ((old.broken ≡ true) × (new ≡ old)) ⊎ IsStepped taken key_for old event new
Steps taken key_for old event new (Some breach) = IsBroken taken key_for old event new breach
