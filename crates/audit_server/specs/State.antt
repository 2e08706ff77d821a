-- The state of one TURN server (RFC 8656, section 6), with one table for all clients, and how a
-- step changes it.
use Rattle.std.specs.Prelude.{ℕ, Bool, true, false, Option, Some, None, if◌then◌else◌}
use Rattle.audit_model.specs.declared.pair.Pair.{Pair}
use Rattle.audit_model.specs.declared.sighting.SightId.{SightId}
use Rattle.audit_model.specs.Sames.{same_sight, same_client}
use Rattle.audit_rules.specs.Allocation.{Allocation, applied}
use Rattle.audit_server.specs.Rules.{Rules}
use Rattle.audit_server.specs.Step.{Step, Move, In, Act, Out}

-- the function f, with the value x at k
abbrev pub put : {K A : Type 0} → (K → K → Bool) → (K → A) → K → A → K → A
put same f k x i = if same i k then x else f i

-- The allocation of each client; the arrivals that wait, with their moments; the departures that
-- are owed, with the moments of their arrivals; the departures that were sent; and the moment of
-- the last step.
pub record State : Type 0 where
  pub table : Pair → Option Allocation
  pub waiting : SightId → Option ℕ
  pub owed : SightId → Option ℕ
  pub sent : SightId → Bool
  pub now : ℕ

-- nobody has anything
abbrev pub at_first : State
at_first = record { table = λ _. None; waiting = λ _. None; owed = λ _. None; sent = λ _. false; now = 0 }

-- a client's allocation after a move for the client
abbrev pub acted : Rules → ℕ → Move → Option Allocation → Option Allocation
acted w moment (In s) x = x
acted w moment (Act c s t) x = applied (w.change c s t moment x) x
acted w moment (Out t) x = x

-- an act changes its client's allocation alone
abbrev pub table_after : Rules → State → ℕ → Move → Pair → Option Allocation
table_after w st moment (In s) = st.table
table_after w st moment (Act c s t) = put same_client st.table c (acted w moment (Act c s t) (st.table c))
table_after w st moment (Out t) = st.table

-- an arrival waits until an act uses it
abbrev pub waiting_after : State → ℕ → Move → SightId → Option ℕ
waiting_after st moment (In s) = put same_sight st.waiting s (Some moment)
waiting_after st moment (Act c s t) = put same_sight st.waiting s None
waiting_after st moment (Out t) = st.waiting

-- a departure is owed from its act until it leaves
abbrev pub owed_after : State → ℕ → Move → SightId → Option ℕ
owed_after st moment (In s) = st.owed
owed_after st moment (Act c s t) = put same_sight st.owed t (st.waiting s)
owed_after st moment (Out t) = put same_sight st.owed t None

-- and was sent from then on
abbrev pub sent_after : State → Move → SightId → Bool
sent_after st (In s) = st.sent
sent_after st (Act c s t) = put same_sight st.sent t true
sent_after st (Out t) = st.sent

abbrev pub after : Rules → State → Step → State
after w st e = record {
  table = table_after w st e.moment e.move;
  waiting = waiting_after st e.moment e.move;
  owed = owed_after st e.moment e.move;
  sent = sent_after st e.move;
  now = e.moment;
}
