-- The events that a turn adds to lanes, and the tenancies that must be checked for clashes then.
use Rattle.std.specs.Prelude.{ℕ, ◌+◌, ◌≡◌, ◌≢◌, ◌≤◌, ◌<◌, ◌⊎◌, Option, Some, None, List, [], ◌∷◌, ◌++◌, Contains, IfSome, length, map}
use Rattle.std.specs.List.{AllByRecursion}
use Rattle.audit_model.specs.declared.address.Addr.{Addr}
use Rattle.audit_model.specs.Clash.{Precedes}
use Rattle.audit_model.specs.declared.certificate.CertLane.{CertLane}
use Rattle.audit_model.specs.declared.event.Event.{Event}
use Rattle.audit_model.specs.declared.extension.Extension.{Extension}
use Rattle.audit_model.specs.declared.certificate.Certificate.{Certificate}
use Rattle.audit_model.specs.declared.verdict.Tenancy.{Tenancy}
use Rattle.audit_rules.specs.Allocation.{Allocation}
use Rattle.audit_placement.specs.Entries.{entries_from, lane_entries}
use Rattle.audit_order.specs.Grown.{empty_lane, of_lane}
use Rattle.audit_server.specs.Rules.{Rules}
use Rattle.audit_server.specs.State.{acted}
use Rattle.audit_server.specs.Placed.{Placed}
use Rattle.std.specs.Prelude.{option_to_list}
use Rattle.audit_server.specs.Tenancies.{running, ended, tenancies_from}
use Rattle.audit_whole.specs.Glued.{placed_of}

-- ---- the state of a lane

-- the allocation of its client, and its tenancy
abbrev pub has_after : Rules → Option Allocation → List Placed → Option Allocation
has_after w x [] = x
has_after w x (e ∷ es) = has_after w (acted w e.at.key.moment e.move x) es

abbrev pub runs_after : Rules → Option Allocation → Option Tenancy → List Placed → Option Tenancy
runs_after w x ten [] = ten
runs_after w x ten (e ∷ es) = runs_after w (acted w e.at.key.moment e.move x) (running w e.at e.move x ten) es

-- the tenancies that ended, in order of birth
abbrev pub ended_in : Rules → Option Allocation → Option Tenancy → List Placed → List Tenancy
ended_in w x ten [] = []
ended_in w x ten (e ∷ es) = option_to_list (ended w e.at e.move x ten) ++ ended_in w (acted w e.at.key.moment e.move x) (running w e.at e.move x ten) es

-- ---- a turn

-- a lane's events before, and those that the turn adds
pub record Turn : Type 0 where
  pub before : List Placed
  pub more : List Placed

abbrev pub whole : Turn → List Placed
whole turn = turn.before ++ turn.more

-- the tenancies of a lane that end in this turn, or are current after it
abbrev pub fresh_in : Rules → Turn → List Tenancy
fresh_in w turn = tenancies_from w (has_after w None turn.before) (runs_after w None None turn.before) turn.more

abbrev pub fresh : Rules → List Turn → List Tenancy
fresh w [] = []
fresh w (turn ∷ turns) = fresh_in w turn ++ fresh w turns

-- the turn comes after the moment, and everything else before
pub record IsPast (horizon : ℕ) (turn : Turn) : Type 0 where
  pub before : AllByRecursion (λ (e : Placed). e.at.key.moment ≤ horizon) turn.before
  pub more : AllByRecursion (λ (e : Placed). horizon < e.at.key.moment) turn.more

-- One of the two is born in the turn, and the other one hasn't expired when the turn begins.
pub record MayClash (horizon : ℕ) (new held : Tenancy) : Type 0 where
  pub new_born : horizon < new.born.key.moment
  pub held_on : horizon < held.last
  pub same_address : held.relayed ≡ new.relayed

-- born at the horizon or before, it goes on, and hasn't expired then
pub record HoldsOn (horizon : ℕ) (t : Tenancy) : Type 0 where
  pub born : t.born.key.moment ≤ horizon
  pub goes_on : t.stopped ≡ None
  pub not_over : horizon < t.last

-- Tenancies that are enough to check: they are tenancies of the lanes, and include each pair that
-- may clash of those that end in the turn or are current after it.
pub record AreEnough (horizon : ℕ) (all now checked : List Tenancy) : Type 0 where
  pub no_others : (t : Tenancy) → Contains checked t → Contains all t
  pub each_two : (new held : Tenancy) → Contains now new → Contains now held → MayClash horizon new held → Contains checked new × Contains checked held

-- The least that is checked: all fresh tenancies of the lanes that have events in the turn, and of
-- the others the current one, if one with its address is born in the turn and it hasn't expired
-- when the turn begins.
pub record Covers (w : Rules) (last : Option ℕ) (turns : List Turn) (checked : List Tenancy) : Type 0 where
  pub touched : (turn : Turn) → Contains turns turn → turn.more ≢ [] → (t : Tenancy) → Contains (fresh_in w turn) t → Contains checked t
  pub others : (turn : Turn) → Contains turns turn → turn.more ≡ [] → (held new : Tenancy) → runs_after w None None turn.before ≡ Some held → Contains (fresh w turns) new →
      IfSome last (λ horizon. MayClash horizon new held) → Contains checked held

-- ---- of a certificate and its extension

-- the events that come after those of a lane
abbrev pub more_of : ℕ → CertLane → List (ℕ × Event) → List Placed
more_of number lane events = map placed_of (entries_from (Some (record { client = lane.client; listen = lane.listen })) number (length lane.events) None (of_lane number events))

abbrev pub turns_from : ℕ → List CertLane → List (ℕ × Event) → List Turn
turns_from number [] events = []
turns_from number (lane ∷ lanes) events = record { before = map placed_of (lane_entries number lane); more = more_of number lane events } ∷ turns_from (number + 1) lanes events

abbrev pub turns_of : Certificate → Extension → List Turn
turns_of certificate extension = turns_from 0 (certificate.lanes ++ map empty_lane extension.lanes) extension.events

-- ---- the lane that holds an address

-- The lane of each current tenancy that hasn't expired at the horizon is noted for its address.
abbrev pub KnowsHolders : Rules → ℕ → (Addr → Option ℕ) → List Placed → Type 0
KnowsHolders w horizon holder events = (r : Tenancy) → runs_after w None None events ≡ Some r → horizon < r.last → holder r.relayed ≡ Some r.born.lane

-- the address was granted later to another lane, whose tenancy is current
pub record IsFollowed (w : Rules) (turns : List Turn) (r : Tenancy) : Type 0 where
  pub turn : Turn
  pub there : Contains turns turn
  pub next : Tenancy
  pub runs : runs_after w None None (whole turn) ≡ Some next
  pub same_address : r.relayed ≡ next.relayed
  pub other_lane : r.born.lane ≢ next.born.lane
  pub before : Precedes r.born.key r.born.lane next.born.key next.born.lane

-- How the notes change: the lane of each current tenancy after the turn is noted if the tenancy is
-- born in the turn, and otherwise stays noted; unless its address was granted to another lane
-- later.
pub record NotesHolders (w : Rules) (last : ℕ) (turns : List Turn) (old new : Addr → Option ℕ) : Type 0 where
  pub born : (turn : Turn) (r : Tenancy) → Contains turns turn → runs_after w None None (whole turn) ≡ Some r → last < r.born.key.moment → (new r.relayed ≡ Some r.born.lane) ⊎ IsFollowed w turns r
  pub kept : (turn : Turn) (r : Tenancy) → Contains turns turn → runs_after w None None (whole turn) ≡ Some r → r.born.key.moment ≤ last → (new r.relayed ≡ old r.relayed) ⊎ IsFollowed w turns r
