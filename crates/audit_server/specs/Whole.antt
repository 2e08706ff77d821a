-- The conditions for lanes to be a run of one server.
use Rattle.std.specs.Prelude.{List, [], ◌∷◌, ◌++◌, map}
use Rattle.std.specs.List.{AllByRecursion}
use Rattle.audit_model.specs.declared.verdict.Tenancy.{Tenancy}
use Rattle.audit_model.specs.Clash.{Clashes}
use Rattle.audit_server.specs.Rules.{Rules}
use Rattle.audit_server.specs.Run.{IsRun}
use Rattle.audit_server.specs.Placed.{Placed, step_of}
use Rattle.audit_server.specs.Tenancies.{tenancies_in}
use Rattle.audit_server.specs.Holding.{AnyOf}

-- each lane is a run by itself: of a server that has its client alone
abbrev pub EachRuns : Rules → List (List Placed) → Type 0
EachRuns w ls = AllByRecursion (λ l. IsRun w (map step_of l)) ls

-- lane after lane
abbrev pub all_tenancies : Rules → List (List Placed) → List Tenancy
all_tenancies w [] = []
all_tenancies w (l ∷ ls) = tenancies_in w l ++ all_tenancies w ls

-- no allocation is granted an address that a client of another lane holds
abbrev pub ClashNowhere : List Tenancy → Type 0
ClashNowhere ts = AllByRecursion (λ new. AnyOf (Clashes new) ts → ⊥) ts
