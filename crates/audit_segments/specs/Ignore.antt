-- When the rules of a server ignore what is past the grace.
use Rattle.std.specs.Prelude.{ℕ, ◌≡◌, Option}
use Rattle.audit_model.specs.declared.pair.Pair.{Pair}
use Rattle.audit_model.specs.declared.sighting.SightId.{SightId}
use Rattle.audit_rules.specs.Allocation.{Allocation, applied}
use Rattle.audit_server.specs.Rules.{Rules}
use Rattle.audit_segments.specs.PastGrace.{AreAlikeEntries}

-- For allocations that are alike the same acts are allowed, with the same changes, and the
-- allocations after it are alike.
pub record IgnorePastGrace (w : Rules) : Type 0 where
  pub may : (c : Pair) (s t : SightId) (moment : ℕ) (x y : Option Allocation) → AreAlikeEntries w.grace moment x y → w.MayAnswer c s t moment x → w.MayAnswer c s t moment y
  pub change : (c : Pair) (s t : SightId) (moment : ℕ) (x y : Option Allocation) → AreAlikeEntries w.grace moment x y → w.change c s t moment x ≡ w.change c s t moment y
  pub after : (c : Pair) (s t : SightId) (moment : ℕ) (x y : Option Allocation) → AreAlikeEntries w.grace moment x y → w.MayAnswer c s t moment x →
      AreAlikeEntries w.grace moment (applied (w.change c s t moment x) x) (applied (w.change c s t moment x) y)
