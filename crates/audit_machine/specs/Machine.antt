-- A machine, as contracts see it.
use Rattle.std.specs.Prelude.{◌≡◌, ◌≢◌, ℕ, Bool, Option, Some, List, [], ◌∷◌, is_some}
use Rattle.audit_model.specs.declared.pair.Pair.{Pair}
use Rattle.audit_model.specs.declared.sighting.SightId.{SightId}
use Rattle.audit_expiry.specs.Lease.{IsUsable}
use Rattle.audit_model.specs.declared.sighting.Sighting.{Sighting}
use Rattle.audit_rules.specs.declared.credentials.CredRow.{CredRow}
use Rattle.audit_rules.specs.declared.table.LaneTable.{LaneTable}
use Rattle.audit_rules.specs.Allocation.{Allocation, applied}
use Rattle.audit_rules.specs.Answer.{MayAnswer}
use Rattle.audit_rules.specs.Effect.{standing}
use Rattle.audit_rules.specs.Said.{change_in}
use Rattle.audit_rules.specs.Seen.{situation_of}
use Rattle.audit_model.specs.declared.address.Addr.{Addr}
use Rattle.audit_server.specs.Run.{HasAddress}
use Rattle.audit_server.specs.State.{State}
use Rattle.audit_machine.specs.declared.holders.Holders.{Holders}
use Rattle.audit_machine.specs.declared.tables.Tables.{Tables}
use Rattle.audit_server.specs.Step.{Step, Move}
use Rattle.audit_segments.specs.Cut.{Cut}
use Rattle.audit_machine.specs.declared.machine.Machine.{Machine}
use Rattle.audit_machine.specs.declared.refusal.Refusal.{Refusal}
use Rattle.audit_machine.specs.declared.refusal.Refusal.TheVariants as refusals
use Rattle.audit_machine.specs.Counts.{count_of}
use Rattle.audit_machine.specs.Holders.{holder_of}
use Rattle.audit_machine.specs.Tables.{allocation_of, AreOwn}
use Rattle.audit_machine.specs.Times.{time_of}

-- the server's state; of the departures that were sent it has those that are owed
abbrev pub state_of : Machine → State
state_of m = record { table = allocation_of m.tables; waiting = time_of m.waiting; owed = time_of m.owed; sent = λ t. is_some (time_of m.owed t); now = m.last }

-- the cut of the machine, if these sightings are excluded
abbrev pub cut_of : Machine → (SightId → Bool) → Cut
cut_of m excluded = record { state = state_of m; placed = count_of m.placed; excluded = excluded }

-- the relayed address of each usable allocation was granted last to its client
abbrev pub AreHeld : Tables → Holders → ℕ → ℕ → Type 0
AreHeld tables holders grace moment = (c : Pair) (a : Allocation) → allocation_of tables c ≡ Some a → IsUsable a.until moment grace → holder_of holders a.relayed ≡ Some c

-- no other client has a usable allocation with the address
abbrev pub IsFreeFor : Tables → ℕ → ℕ → Pair → Addr → Type 0
IsFreeFor tables grace moment pair relayed = (other : Pair) → other ≢ pair → HasAddress grace moment relayed (allocation_of tables other) → ⊥

-- the allocation has the property, if there is one and it is usable
abbrev pub IfUsable : ℕ → ℕ → Option Allocation → (Allocation → Type 0) → Type 0
IfUsable grace moment allocation Fact = (a : Allocation) → allocation ≡ Some a → IsUsable a.until moment grace → Fact a

-- the relayed address of each other client's usable allocation was granted last to that client
abbrev pub AreOthersHeld : Pair → Tables → Holders → ℕ → ℕ → Type 0
AreOthersHeld pair tables holders grace moment = (c : Pair) (b : Allocation) → c ≢ pair → allocation_of tables c ≡ Some b → IsUsable b.until moment grace → holder_of holders b.relayed ≡ Some c

-- The invariant: each table is of its client, and the relayed address of each usable allocation was
-- granted last to its client.
pub record IsConsistent (m : Machine) : Type 0 where
  pub own : AreOwn m.tables
  pub held : AreHeld m.tables m.holders m.policy.grace m.last

-- one move at a moment
abbrev pub one_step : ℕ → Move → List Step
one_step moment move = record { moment = moment; move = move } ∷ []

-- a refusal after which the machine may not be used again
abbrev pub IsFatal : Refusal → Type 0
IsFatal refusals.Memory = Unit {0}
IsFatal refusals.TableLost = Unit {0}
IsFatal refusals.Unknown = ⊥
IsFatal refusals.Order = ⊥
IsFatal refusals.Window = ⊥
IsFatal refusals.Next = ⊥
IsFatal refusals.NotOwed = ⊥
IsFatal refusals.NotWaiting = ⊥
IsFatal refusals.Sent = ⊥
IsFatal refusals.Held = ⊥
IsFatal (refusals.Broken rule) = ⊥

-- the cut is the same, and the invariant holds
pub record IsUnmoved (old new : Machine) : Type 0 where
  pub consistent : IsConsistent new
  pub policy : new.policy ≡ old.policy
  pub cut : (excluded : SightId → Bool) → cut_of new excluded ≡ cut_of old excluded

-- the cut is the same, and the invariant holds, unless the refusal is fatal
abbrev pub IsUnmovedUnlessFatal : Machine → Machine → Refusal → Type 0
IsUnmovedUnlessFatal old new refusal = (IsFatal refusal → ⊥) → IsUnmoved old new

-- The table after an act that the rules allow for the allocation that the client had.
pub record IsJudged (old : Machine) (pair : Pair) (users : List CredRow) (arrives leaves : Sighting) (moment : ℕ) (table : LaneTable) : Type 0 where
  pub before : LaneTable
  pub client : (standing before).client ≡ pair.client
  pub listen : (standing before).listen ≡ pair.listen
  pub allocation : (standing before).allocation ≡ allocation_of old.tables pair
  pub may : MayAnswer (situation_of before users old.policy arrives leaves moment) (change_in (situation_of before users old.policy arrives leaves moment))
  pub after : (standing table).allocation ≡ applied (change_in (situation_of before users old.policy arrives leaves moment)) (standing before).allocation
  pub client' : (standing table).client ≡ pair.client
  pub listen' : (standing table).listen ≡ pair.listen

-- the client's table, or an empty one if it has none
pub record IsTableOf (tables : Tables) (pair : Pair) (table : LaneTable) : Type 0 where
  pub client : (standing table).client ≡ pair.client
  pub listen : (standing table).listen ≡ pair.listen
  pub allocation : (standing table).allocation ≡ allocation_of tables pair
