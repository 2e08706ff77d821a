-- The lanes and the events of a turn.
use Rattle.std.specs.Prelude.{◌≡◌, ℕ, ◌+◌, ◌-◌, min, List, ◌∷◌, [], ◌++◌, map, length, Option, Some, None, Contains, slice_get, slice_set, MatchBool}
use Rattle.audit_model.specs.declared.address.Addr.{Addr}
use Rattle.audit_model.specs.declared.event.Event.{Event}
use Rattle.audit_model.specs.declared.verdict.Breach.{Breach}
use Rattle.audit_model.specs.declared.verdict.Tenancy.{Tenancy}
use Rattle.audit_model.specs.Clash.{ShowsClash}
use Rattle.audit_model.specs.Least.{IsLeast}
use Rattle.audit_lane.specs.Seen.{kept_of}
use Rattle.audit_prefix.specs.Breaches.{OrElse}
use Rattle.audit_rules.specs.Keys.{KeyFor}
use Rattle.audit_sightings.specs.Intake.{Taken}
use Rattle.audit_live.specs.declared.holders.Holders.{Holders}
use Rattle.audit_live.specs.declared.lane.LiveLane.{LiveLane}
use Rattle.audit_live.specs.declared.lanes.LiveLanes.{LiveLanes}
use Rattle.audit_live.specs.CheckedTenancies.{is_past_last, checked_of, AreTouched}
use Rattle.audit_live.specs.Chain.{Chain}
use Rattle.audit_live.specs.Holding.{running_at, Notes}
use Rattle.audit_live.specs.Steps.{IsNew, Steps}

-- one more lane after the others
abbrev pub AddsLane : List LiveLane → Addr × Addr → List LiveLane → Type 0
AddsLane old pair new = (lane : LiveLane) × IsNew (length old) pair lane × (new ≡ old ++ lane ∷ [])

-- an event, and the breach that it shows
pub record Shown : Type 0 where
  pub number : ℕ
  pub event : Event
  pub found : Option Breach

-- the lane of that number applies the event, and the sum of owed departures changes with it
pub record StepsIn (taken : Taken) (key_for : KeyFor) (old : LiveLanes) (shown : Shown) (new : LiveLanes) : Type 0 where
  pub was : LiveLane
  pub there : slice_get old.lanes.items shown.number ≡ Some was
  pub is : LiveLane
  pub lanes : new.lanes.items ≡ slice_set old.lanes.items shown.number is
  pub steps : Steps taken key_for was shown.event is shown.found
  pub owed : new.owed ≡ min ((old.owed - was.owes) + is.owes) 18446744073709551615
  pub holders : new.holders ≡ old.holders

-- Each event is applied by its lane, in their order. The result is the least breach that they show,
-- whatever that order is.
pub record Walks (taken : Taken) (key_for : KeyFor) (old : LiveLanes) (events : List (ℕ × Event)) (new : LiveLanes) (found : Option Breach) : Type 0 where
  pub shown : List Shown
  pub events_are : map (λ one. (one.number, one.event)) shown ≡ events
  pub chain : Chain (StepsIn taken key_for) old shown new
  pub least : IsLeast (λ breach. Contains (map (λ one. one.found) shown) (Some breach)) found

-- the ended tenancies of the lane are marked as checked
abbrev pub NotesChecked : List LiveLane → ℕ → List LiveLane → Type 0
NotesChecked old number new = (was : LiveLane) × (slice_get old number ≡ Some was) × (new ≡ slice_set old number (record was { checked = length (kept_of was.state).ended }))

-- the current tenancy is noted if it was born past the last horizon
abbrev pub NotesRunning : List LiveLane → Option ℕ → Holders → Option Tenancy → Holders → Type 0
NotesRunning lanes last old None new = new ≡ old
NotesRunning lanes last old (Some tenancy) new = MatchBool (is_past_last last tenancy.born.key.moment) (Notes lanes old tenancy new) (new ≡ old)

-- the notes about lanes that were checked
pub record NotesTurn (last : Option ℕ) (touched : List ℕ) (old new : LiveLanes) : Type 0 where
  pub lanes : Chain NotesChecked old.lanes.items touched new.lanes.items
  pub holders : Chain (λ was number is. NotesRunning new.lanes.items last was (running_at new.lanes.items number) is) old.holders touched new.holders
  pub owed : new.owed ≡ old.owed

-- The result is the least of the lanes' breaches, or else the least clash of the checked tenancies;
-- if there is none, the lanes are noted as checked.
pub record TakesTurn (taken : Taken) (key_for : KeyFor) (last : Option ℕ) (old : LiveLanes) (events : List (ℕ × Event)) (new : LiveLanes) (found : Option Breach) : Type 0 where
  pub mid : LiveLanes
  pub of_lanes : Option Breach
  pub walks : Walks taken key_for old events mid of_lanes
  pub touched : List ℕ
  pub are_touched : AreTouched events touched
  pub reports : OrElse of_lanes (IsLeast (ShowsClash (checked_of mid.lanes.items mid.holders last touched))) found
  pub notes : found ≡ None → NotesTurn last touched mid new
