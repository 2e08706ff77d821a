-- What the interfaces show, each by itself.
use Rattle.std.proofs.Common.{◌≡◌, ◌<◌, ◌+◌, ◌≤◌, ℕ, Option, ◌⊎◌, inl, inr, arith, subst}
use Rattle.std.proofs.lemmas.Bool.{cases_lt}
use Rattle.audit_model.specs.declared.verdict.Breach.{Breach}
use Rattle.audit_model.specs.Breach.{lesser}
use Rattle.audit_model.specs.Least.{IsLeast}
use Rattle.audit_model.proofs.LeastBreach.{least_same}
use Rattle.audit_placement.proofs.LeastOfTwo.{least_both}

-- what one of the interfaces below that number shows
abbrev pub Below : (ℕ → Breach → Type 0) → ℕ → Breach → Type 0
Below On count b = (iface : ℕ) × (iface < count) × On iface b

module _ (On : ℕ → Breach → Type 0) where
  -- one interface more
  pub least_interface : (iface : ℕ) (least found : Option Breach) → IsLeast (Below On iface) least → IsLeast (On iface) found → IsLeast (Below On (iface + 1)) (lesser least found)
  least_interface iface least found is one =
      least_same (λ b. Below On iface b ⊎ On iface b) (Below On (iface + 1))
      (λ b shown. elim shown [ inl h ↦ (h.0, omega (arith, h.1), h.2) | inr h ↦ (iface, omega arith, h) ])
      (λ b shown. elim (cases_lt shown.0 iface) [
        | inl below ↦ inl (shown.0, below, shown.2)
        | inr past ↦ let same : shown.0 ≡ iface = omega (arith, past, shown.1) in inr (subst (λ (n : ℕ). On n b) same shown.2)
      ])
      (lesser least found) (least_both (Below On iface) (On iface) least found is one)

  -- where none past the last shows anything
  pub least_of_all : (count : ℕ) (least : Option Breach) → ((iface : ℕ) (b : Breach) → count ≤ iface → ¬ On iface b)
      → IsLeast (Below On count) least → IsLeast (λ b. (iface : ℕ) × On iface b) least
  least_of_all count least none is =
      least_same (Below On count) (λ b. (iface : ℕ) × On iface b)
      (λ b shown. (shown.0, shown.2))
      (λ b shown. elim (cases_lt shown.0 count) [ inl below ↦ (shown.0, below, shown.1) | inr past ↦ absurd (none shown.0 b past shown.1) ])
      least is
