-- The least breach of two kinds.
use Rattle.std.proofs.Common.{◌≡◌, Option, Some, None, false, refl, sym, subst, ◌⊎◌, inl, inr}
use Rattle.std.specs.Ordering.{is_gt}
use Rattle.std.specs.Cmp.{upto}
use Rattle.std.proofs.lemmas.Option.{none-some, same_Some}
use Rattle.audit_model.specs.declared.verdict.Breach.{Breach}
use Rattle.audit_model.specs.Breach.{breach_cmp, lesser}
use Rattle.audit_model.specs.Least.{IsLeast}
use Rattle.audit_model.proofs.Orders.{breach_total}
use Rattle.audit_model.proofs.LeastBreach.{least_with, least_same}
use Rattle.audit_placement.proofs.LeastOfChecks.{same_breach}

lesser_none : (a : Option Breach) → lesser a None ≡ a
lesser_none None = refl
lesser_none (Some a) = refl

module _ (One Other : Breach → Type 0) where
  of_none : (a b : Option Breach) → b ≡ None → IsLeast One a → ((x : Breach) → ¬ Other x) → IsLeast (λ x. One x ⊎ Other x) (lesser a b)
  of_none a b is one none =
      rw (is, lesser_none a) (least_same One (λ x. One x ⊎ Other x) (λ x shown. inl shown) (λ x shown. elim shown [ inl h ↦ h | inr h ↦ absurd (none x h) ]) a one)

  widened : (new : Breach) → Other new → ((x : Breach) → Other x → is_gt (breach_cmp new x) ≡ false)
      → (least : Option Breach) → IsLeast (λ x. One x ⊎ (x ≡ new)) least → IsLeast (λ x. One x ⊎ Other x) least
  widened new is least None none = absurd (none new (inr refl))
  widened new is least (Some r) told = (
    elim told.0 [ inl h ↦ inl h | inr same ↦ inr (subst Other (sym same) is) ],
    λ x shown. elim shown [ inl h ↦ told.1 x (inl h) | inr h ↦ upto breach_total r new x (told.1 new (inr refl)) (least x h) ],
  )

  pub least_both : (a b : Option Breach) → IsLeast One a → IsLeast Other b → IsLeast (λ x. One x ⊎ Other x) (lesser a b)
  least_both a None one none = of_none a None refl one none
  least_both a (Some new) one other = widened new other.0 other.1 (lesser a (Some new)) (least_with One new a one)

-- the breach that was found, alone
pub least_found : (found : Option Breach) → IsLeast (λ b. found ≡ Some b) found
least_found None = λ b is. none-some b is
least_found (Some r) = (refl, λ b is. same_breach r b (sym (same_Some r b is)))
