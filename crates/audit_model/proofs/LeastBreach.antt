-- The least of some breaches, as one more is shown.
use Rattle.std.proofs.Common.{◌≡◌, Option, Some, None, Ordering, false, refl, ap, ◌∙◌, ◌⊎◌, inl, inr}
use Rattle.std.specs.Ordering.{is_gt, ordering_reverse}
use Rattle.std.specs.Cmp.{upto, tied_itself}
use Rattle.std.specs.declared.cmp.Ordering.TheVariants.{Less, Equal, Greater}
use Rattle.audit_model.specs.declared.verdict.Breach.{Breach}
use Rattle.audit_model.specs.Breach.{breach_cmp, lesser, lesser_by}
use Rattle.audit_model.specs.Least.{IsLeast}
use Rattle.audit_model.proofs.Orders.{breach_total}

-- a breach is told after none that is the same
not_after_itself : (one other : Breach) → other ≡ one → is_gt (breach_cmp one other) ≡ false
not_after_itself one other same = rw same (ap is_gt (tied_itself breach_total one))

module _ (Shown : Breach → Type 0) (new : Breach) where
  abbrev OrNew : Breach → Type 0
  OrNew b = Shown b ⊎ (b ≡ new)

  first_one : ((b : Breach) → ¬ Shown b) → (b : Breach) → OrNew b → is_gt (breach_cmp new b) ≡ false
  first_one none b (inl shown) = absurd (none b shown)
  first_one none b (inr same) = not_after_itself new b same

  new_first : (one : Breach) → breach_cmp new one ≡ Less → ((b : Breach) → Shown b → is_gt (breach_cmp one b) ≡ false)
      → (b : Breach) → OrNew b → is_gt (breach_cmp new b) ≡ false
  new_first one less least b (inl shown) = upto breach_total new one b (ap is_gt less) (least b shown)
  new_first one less least b (inr same) = not_after_itself new b same

  old_first : (one : Breach) → is_gt (ordering_reverse (breach_cmp new one)) ≡ false → ((b : Breach) → Shown b → is_gt (breach_cmp one b) ≡ false)
      → (b : Breach) → OrNew b → is_gt (breach_cmp one b) ≡ false
  old_first one not_less least b (inl shown) = least b shown
  old_first one not_less least b (inr same) = rw same (ap is_gt (breach_total.antisymm one new) ∙ not_less)

  of_two : (one : Breach) (order : Ordering) → breach_cmp new one ≡ order → Shown one → ((b : Breach) → Shown b → is_gt (breach_cmp one b) ≡ false)
      → IsLeast OrNew (lesser_by order one new)
  of_two one Less is shown least = (inr refl, new_first one is least)
  of_two one Equal is shown least = (inl shown, old_first one (ap (λ (o : Ordering). is_gt (ordering_reverse o)) is) least)
  of_two one Greater is shown least = (inl shown, old_first one (ap (λ (o : Ordering). is_gt (ordering_reverse o)) is) least)

  -- one more is shown
  pub least_with : (least : Option Breach) → IsLeast Shown least → IsLeast (λ b. Shown b ⊎ (b ≡ new)) (lesser least (Some new))
  least_with None none = (inr refl, first_one none)
  least_with (Some one) is = of_two one (breach_cmp new one) refl is.0 is.1

-- the same breaches are shown
pub least_same : (Shown Shown' : Breach → Type 0) → ((b : Breach) → Shown b → Shown' b) → ((b : Breach) → Shown' b → Shown b)
    → (least : Option Breach) → IsLeast Shown least → IsLeast Shown' least
least_same Shown Shown' to from None none = λ b shown. none b (from b shown)
least_same Shown Shown' to from (Some one) is = (to one is.0, λ b shown. is.1 b (from b shown))
