-- Entries that show no breach in what they place, in a form to which one more entry can be added:
-- none breaks a rule by itself, no two place the same sighting, and the key noted for each sighting
-- is the one at which it is placed.
use Rattle.std.specs.Prelude.{◌≡◌, ℕ, ◌+◌, Bool, true, false, List, All, Option, Some, None, is_some, sum_by, if◌then◌else◌}
use Rattle.std.specs.Ordering.{is_gt}
use Rattle.audit_model.specs.declared.event.Event.{Event}
use Rattle.audit_model.specs.declared.event.Event.TheVariants.{In, Act, Out}
use Rattle.audit_model.specs.declared.event.Key.{Key}
use Rattle.audit_model.specs.declared.sighting.SightId.{SightId}
use Rattle.audit_model.specs.Breach.{key_cmp}
use Rattle.audit_sightings.specs.Intake.{Taken}
use Rattle.audit_placement.specs.declared.entry.Entry.{Entry}
use Rattle.audit_model.specs.declared.pair.Pair.{Pair}
use Rattle.audit_placement.specs.Checks.{event_checks, first_broken}
use Rattle.audit_placement.specs.FirstPlace.{places}
use Rattle.audit_model.specs.Sames.{same_sight}

-- the entry breaks no rule if no other places its sighting, and its sighting is noted at its key
pub record IsFine (taken : Taken) (noted : SightId → Option Key) (entry : Entry) : Type 0 where
  pub own : first_broken (event_checks taken false entry.pair entry.last entry.event) ≡ None
  pub told : (sight : SightId) → places entry.event sight ≡ true → noted sight ≡ Some entry.at.key

abbrev pub one_if : Bool → ℕ
one_if true = 1
one_if false = 0

-- how many of the entries place the sighting
abbrev pub times_placed : List Entry → SightId → ℕ
times_placed entries sight = sum_by (λ entry. one_if (places entry.event sight)) entries

pub record IsClean (taken : Taken) (noted : SightId → Option Key) (entries : List Entry) : Type 0 where
  pub fine : All (IsFine taken noted) entries
  pub once : (sight : SightId) → times_placed entries sight ≡ one_if (is_some (noted sight))
  pub order : (iface index : ℕ) (before at : Key) → noted (record { iface = iface; index = index }) ≡ Some before
      → noted (record { iface = iface; index = index + 1 }) ≡ Some at → is_gt (key_cmp at before) ≡ true

-- a sighting that wasn't noted is noted now, between its neighbours on the interface
pub record PlacesAt (noted : SightId → Option Key) (sight : SightId) (key : Key) (now : SightId → Option Key) : Type 0 where
  pub free : noted sight ≡ None
  pub behind : (index : ℕ) (before : Key) → sight.index ≡ index + 1 → noted (record { iface = sight.iface; index = index }) ≡ Some before
      → is_gt (key_cmp key before) ≡ true
  pub ahead : (next : Key) → noted (record { iface = sight.iface; index = sight.index + 1 }) ≡ Some next → is_gt (key_cmp next key) ≡ true
  pub set : (other : SightId) → now other ≡ (if same_sight sight other then Some key else noted other)

-- an act places nothing
abbrev pub PlacesEvent : (SightId → Option Key) → Event → (SightId → Option Key) → Type 0
PlacesEvent noted (In sight key) now = PlacesAt noted sight key now
PlacesEvent noted (Act arrival departure key) now = (other : SightId) → now other ≡ noted other
PlacesEvent noted (Out sight key) now = PlacesAt noted sight key now

-- an event of a lane of that pair, after one of that key
pub record Takes (taken : Taken) (noted : SightId → Option Key) (pair : Option Pair) (last : Option Key) (event : Event) (now : SightId → Option Key) : Type 0 where
  pub own : first_broken (event_checks taken false pair last event) ≡ None
  pub placed : PlacesEvent noted event now
