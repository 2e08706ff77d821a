-- What the laws require of the rules.
use Rattle.std.specs.Prelude.{ℕ, ◌≡◌, Option, Some, None}
use Rattle.audit_model.specs.declared.pair.Pair.{Pair}
use Rattle.audit_model.specs.declared.sighting.SightId.{SightId}
use Rattle.audit_model.specs.Window.{later}
use Rattle.audit_expiry.specs.Lease.{IsUsable}
use Rattle.audit_rules.specs.Allocation.{Allocation, Renews}
use Rattle.audit_server.specs.Rules.{Rules}

-- there is an allocation, and it is usable at the moment
abbrev pub IsUsableAt : ℕ → ℕ → Option Allocation → Type 0
IsUsableAt grace moment None = ⊥
IsUsableAt grace moment (Some a) = IsUsable a.until moment grace

-- only a usable allocation is renewed, and its new lifetime counts from the moment
pub record AreLawful (w : Rules) : Type 0 where
  pub usable : (c : Pair) (s t : SightId) (moment until : ℕ) (x : Option Allocation) → w.MayAnswer c s t moment x → w.change c s t moment x ≡ Renews until → IsUsableAt w.grace moment x
  pub onward : (c : Pair) (s t : SightId) (moment until : ℕ) (x : Option Allocation) → w.change c s t moment x ≡ Renews until → (time : ℕ) × (until ≡ later moment time)
