-- The tenancies of relayed addresses by a lane's moves.
use Rattle.std.specs.Prelude.{ℕ, Option, None, List, [], ◌∷◌, ◌++◌, option_to_list}
use Rattle.audit_model.specs.declared.event.At.{At}
use Rattle.audit_model.specs.declared.verdict.Tenancy.{Tenancy}
use Rattle.audit_rules.specs.Allocation.{Allocation}
use Rattle.audit_rules.specs.Tenancies.{running_after, ended_by}
use Rattle.audit_server.specs.Rules.{Rules}
use Rattle.audit_server.specs.State.{acted}
use Rattle.audit_server.specs.Step.{Move, In, Act, Out}
use Rattle.audit_server.specs.Placed.{Placed, of_lane}

-- the current tenancy after a move, by the client's allocation and the tenancy before
abbrev pub running : Rules → At → Move → Option Allocation → Option Tenancy → Option Tenancy
running w at (In s) x ten = ten
running w at (Act c s t) x ten = running_after w.grace at s (w.change c s t at.key.moment x) ten
running w at (Out t) x ten = ten

-- the tenancy that a move ends
abbrev pub ended : Rules → At → Move → Option Allocation → Option Tenancy → Option Tenancy
ended w at (In s) x ten = None
ended w at (Act c s t) x ten = ended_by at.key (w.change c s t at.key.moment x) ten
ended w at (Out t) x ten = None

-- the tenancies of one lane in order of birth, from the client's allocation and its tenancy
abbrev pub tenancies_from : Rules → Option Allocation → Option Tenancy → List Placed → List Tenancy
tenancies_from w x ten [] = option_to_list ten
tenancies_from w x ten (e ∷ es) =
    option_to_list (ended w e.at e.move x ten) ++ tenancies_from w (acted w e.at.key.moment e.move x) (running w e.at e.move x ten) es

-- from the lane's first move on
abbrev pub tenancies_in : Rules → List Placed → List Tenancy
tenancies_in w events = tenancies_from w None None events

-- of a lane among others
abbrev pub tenancies : Rules → ℕ → List Placed → List Tenancy
tenancies w lane steps = tenancies_in w (of_lane lane steps)
