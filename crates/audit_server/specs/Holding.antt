-- When a tenancy, taken by its final end, holds its address.
use Rattle.std.specs.Prelude.{ℕ, ◌≡◌, ◌≢◌, ◌⊎◌, List, [], ◌∷◌}
use Rattle.std.specs.List.{AllByRecursion}
use Rattle.audit_model.specs.declared.address.Addr.{Addr}
use Rattle.audit_model.specs.declared.event.At.{At}
use Rattle.audit_model.specs.declared.verdict.Tenancy.{Tenancy}
use Rattle.audit_model.specs.Clash.{Precedes, StillHeld}
use Rattle.audit_server.specs.Rules.{Rules}
use Rattle.audit_server.specs.Placed.{Placed}
use Rattle.audit_server.specs.Tenancies.{tenancies}

-- at this place the tenancy holds this address: it was born before, and still is
pub record HoldsAt (at : At) (relayed : Addr) (t : Tenancy) : Type 0 where
  pub same : t.relayed ≡ relayed
  pub born : Precedes t.born.key t.born.lane at.key at.lane
  pub still : StillHeld t at.key at.lane

-- one of them has the property
abbrev pub AnyOf : {A : Type 0} → (A → Type 0) → List A → Type 0
AnyOf P [] = ⊥
AnyOf P (x ∷ xs) = P x ⊎ AnyOf P xs

-- no tenancy begins while one of another lane holds its address
abbrev pub NoClash : Rules → List Placed → Type 0
NoClash w steps =
    (one other : ℕ) → one ≢ other → AllByRecursion (λ t. AnyOf (HoldsAt t.born t.relayed) (tenancies w other steps) → ⊥) (tenancies w one steps)
