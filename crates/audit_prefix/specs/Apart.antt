-- The server with sent and owed departures separate for each lane: two lanes may have sent one
-- departure, while it hasn't left.
use Rattle.std.specs.Prelude.{ℕ, ◌==◌, Bool, false, Option, None, List, [], ◌∷◌}
use Rattle.audit_model.specs.declared.sighting.SightId.{SightId}
use Rattle.audit_rules.specs.Allocation.{Allocation}
use Rattle.audit_model.specs.declared.pair.Pair.{Pair}
use Rattle.audit_server.specs.Rules.{Rules}
use Rattle.audit_server.specs.State.{State, after, put}
use Rattle.audit_server.specs.Run.{Allowed}
use Rattle.audit_server.specs.Placed.{Placed, step_of}

pub record Shared : Type 0 where
  pub table : Pair → Option Allocation
  pub waiting : SightId → Option ℕ
  pub owed : ℕ → SightId → Option ℕ
  pub sent : ℕ → SightId → Bool
  pub now : ℕ

abbrev pub none_yet : Shared
none_yet = record { table = λ _. None; waiting = λ _. None; owed = λ _ _. None; sent = λ _ _. false; now = 0 }

-- the server as a lane finds it
abbrev pub found_by : ℕ → Shared → State
found_by lane st = record { table = st.table; waiting = st.waiting; owed = st.owed lane; sent = st.sent lane; now = st.now }

abbrev pub same_lane : ℕ → ℕ → Bool
same_lane one other = one == other

-- and after a step of the lane
abbrev pub with_lane : Shared → ℕ → State → Shared
with_lane st lane own = record {
  table = own.table;
  waiting = own.waiting;
  owed = put same_lane st.owed lane own.owed;
  sent = put same_lane st.sent lane own.sent;
  now = own.now;
}

abbrev pub stepped : Rules → Shared → Placed → Shared
stepped w st e = with_lane st e.at.lane (after w (found_by e.at.lane st) (step_of e))

-- each step may come in the state after the steps before it
abbrev pub RunsApart : Rules → Shared → List Placed → Type 0
RunsApart w st [] = Unit {0}
RunsApart w st (e ∷ es) = Allowed w (found_by e.at.lane st) (step_of e) × RunsApart w (stepped w st e) es

abbrev pub led_apart : Rules → Shared → List Placed → Shared
led_apart w st [] = st
led_apart w st (e ∷ es) = led_apart w (stepped w st e) es
