-- Moves with their places, in the lanes of their clients.
use Rattle.std.specs.Prelude.{ℕ, ◌==◌, List, map}
use Rattle.std.specs.List.{fold, filter}
use Rattle.std.specs.List.Sorted.{IsStrictlySortedBy}
use Rattle.std.specs.declared.cmp.Ordering.{Ordering}
use Rattle.audit_model.specs.declared.event.At.{At}
use Rattle.audit_model.specs.Clash.{act_cmp}
use Rattle.audit_server.specs.Rules.{Rules}
use Rattle.audit_server.specs.State.{State, at_first, after}
use Rattle.audit_server.specs.Step.{Step, Move}
use Rattle.audit_server.specs.Run.{RunFrom}

-- by key, then by lane
abbrev pub at_cmp : At → At → Ordering
at_cmp a b = act_cmp a.key a.lane b.key b.lane

pub record Placed : Type 0 where
  pub at : At
  pub move : Move

-- the server's step there, which has neither lanes nor ties
abbrev pub step_of : Placed → Step
step_of e = record { moment = e.at.key.moment; move = e.move }

-- the moves are a run from a state on
abbrev pub Runs : Rules → State → List Placed → Type 0
Runs w st events = RunFrom w st (map step_of events)

-- the state after them, from another
abbrev pub led : Rules → State → List Placed → State
led w st events = fold (after w) st (map step_of events)

-- and from the first one
abbrev pub state_after : Rules → List Placed → State
state_after w events = led w at_first events

-- those of a lane
abbrev pub of_lane : ℕ → List Placed → List Placed
of_lane lane steps = filter (λ e. e.at.lane == lane) steps

-- they are in order, no two at one place
abbrev pub Rises : List Placed → Type 0
Rises steps = IsStrictlySortedBy (λ (d e : Placed). at_cmp d.at e.at) steps
