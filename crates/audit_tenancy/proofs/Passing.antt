-- The breaches that are shown so far, as one more tenancy comes.
use Rattle.std.proofs.Common.{◌≡◌, ◌<◌, ◌≤◌, ◌+◌, ℕ, false, List, [], ◌∷◌, ◌++◌, length, take, get_or, Option, Some, ◌⊎◌, inl, inr, refl, sym, ap, ◌∙◌, subst, arith, length-take}
use Rattle.std.proofs.lemmas.Bool.{true≢false}
use Rattle.std.proofs.lemmas.List.{get_or-take, get_or_default, take_more}
use Rattle.std.proofs.lemmas.List.Elements.{Contains-push, Contains-push_cases, Contains-append_left}
use Rattle.std.proofs.lemmas.List.Sorted.{sorted_far, ranks_by}
use Rattle.std.specs.Prelude.{IsSorted}
use Rattle.std.specs.Ordering.{is_lt, is_gt, ordering_reverse}
use Rattle.std.specs.declared.cmp.Ordering.{Ordering}
use Rattle.std.specs.declared.cmp.Ordering.TheVariants.{Less, Equal, Greater}
use Rattle.audit_model.specs.declared.verdict.Breach.{Breach}
use Rattle.audit_model.specs.declared.verdict.Tenancy.{Tenancy}
use Rattle.audit_model.specs.Breach.{lesser}
use Rattle.audit_model.specs.Clash.{Clashes, ShowsClash, breach_of}
use Rattle.audit_model.specs.Least.{IsLeast}
use Rattle.audit_model.proofs.LeastBreach.{least_with, least_same}
use Rattle.audit_tenancy.specs.Kept.{ComeBefore, Keeps, ClashesWithOne, tenancy_cmp}
use Rattle.audit_tenancy.proofs.Addresses.{tenancy_total, not_born_before}

turned : (there back : Ordering) → there ≡ ordering_reverse back → is_lt back ≡ false → is_gt there ≡ false
turned Less back h k = refl
turned Equal back h k = refl
turned Greater Less h k = absurd (true≢false k)
turned Greater Equal h k = absurd (true≢false (ap is_gt h))
turned Greater Greater h k = absurd (true≢false (ap is_gt h))

-- in order, what stands before comes before
pub come_before : (sorted : List Tenancy) (i : ℕ) (t : Tenancy) → IsSorted tenancy_cmp sorted → i < length sorted → t ≡ get_or sorted i t → ComeBefore (take i sorted) t
come_before sorted i t order within here one (k, below, is) =
    let lower : k < i = omega (arith, below, length-take i sorted) in
    let inside : k < length sorted = omega arith in
    let there : one ≡ get_or sorted k t = sym is ∙ get_or-take i sorted k one lower ∙ get_or_default sorted k one t inside in
    let up_to : k ≤ i = omega arith in
    let not_less : is_lt (tenancy_cmp t one) ≡ false =
    rw (here, there) (sorted_far (λ x y. is_lt (tenancy_cmp x y)) (ranks_by tenancy_total (λ x. x)) sorted order k i t up_to within) in
    turned _ _ (tenancy_total.antisymm one t) not_less

module _ (earlier : List Tenancy) (new : Tenancy) (before : ComeBefore earlier new) where
  -- a breach is shown anew by the new tenancy alone
  old_or_new : (b : Breach) → ShowsClash (earlier ++ new ∷ []) b → ShowsClash earlier b ⊎ ((b ≡ breach_of new) × ClashesWithOne earlier new)
  old_or_new b (one, held, one_in, held_in, clash, is) =
      elim (Contains-push_cases earlier new one one_in) [
        | inl one_there ↦ elim (Contains-push_cases earlier new held held_in) [
          | inl held_there ↦ inl (one, held, one_there, held_there, clash, is)
          | inr last ↦ absurd (not_born_before one held (subst (λ t. is_gt (tenancy_cmp one t) ≡ false) last (before one one_there)) clash.same_address clash.born_before)
        ]
        | inr last ↦ elim (Contains-push_cases earlier new held held_in) [
          | inl held_there ↦ inr (is ∙ ap breach_of (sym last), (held, held_there, subst (λ t. Clashes t held) (sym last) clash))
          | inr both ↦ absurd (clash.other_lane (ap (λ (t : Tenancy). t.born.lane) (sym both ∙ last)))
        ]
      ]

  still_shown : (b : Breach) → ShowsClash earlier b → ShowsClash (earlier ++ new ∷ []) b
  still_shown b (one, held, one_in, held_in, clash, is) =
      (one, held, Contains-append_left earlier (new ∷ []) one one_in, Contains-append_left earlier (new ∷ []) held held_in, clash, is)

  -- the new one clashes
  new_shown : ClashesWithOne earlier new → (b : Breach) → ShowsClash earlier b ⊎ (b ≡ breach_of new) → ShowsClash (earlier ++ new ∷ []) b
  new_shown clashes b (inl shown) = still_shown b shown
  new_shown (held, held_in, clash) b (inr is) = (new, held, Contains-push earlier new, Contains-append_left earlier (new ∷ []) held held_in, clash, is)

  without_clash : (b : Breach) → ShowsClash earlier b ⊎ ((b ≡ breach_of new) × ClashesWithOne earlier new) → ShowsClash earlier b ⊎ (b ≡ breach_of new)
  without_clash b (inl shown) = inl shown
  without_clash b (inr is) = inr is.0

  old_alone : ¬ ClashesWithOne earlier new → (b : Breach) → ShowsClash earlier b ⊎ ((b ≡ breach_of new) × ClashesWithOne earlier new) → ShowsClash earlier b
  old_alone none b (inl shown) = shown
  old_alone none b (inr is) = absurd (none is.1)

  pub least_shown : (least : Option Breach) → ClashesWithOne earlier new → IsLeast (ShowsClash earlier) least
      → IsLeast (ShowsClash (earlier ++ new ∷ [])) (lesser least (Some (breach_of new)))
  least_shown least clashes is =
      least_same (λ b. ShowsClash earlier b ⊎ (b ≡ breach_of new)) (ShowsClash (earlier ++ new ∷ [])) (new_shown clashes)
      (λ b shown. without_clash b (old_or_new b shown)) _ (least_with (ShowsClash earlier) (breach_of new) least is)

  pub least_kept : (least : Option Breach) → ¬ ClashesWithOne earlier new → IsLeast (ShowsClash earlier) least → IsLeast (ShowsClash (earlier ++ new ∷ [])) least
  least_kept least none is =
      least_same (ShowsClash earlier) (ShowsClash (earlier ++ new ∷ [])) still_shown (λ b shown. old_alone none b (old_or_new b shown)) least is

-- the tenancy at a place of the tenancies in order
module _ (sorted : List Tenancy) (i : ℕ) (d : Tenancy) (within : i < length sorted) where
  one_more : take (i + 1) sorted ≡ take i sorted ++ get_or sorted i d ∷ []
  one_more = take_more sorted i d within

  pub before_at : IsSorted tenancy_cmp sorted → ComeBefore (take i sorted) (get_or sorted i d)
  before_at order = come_before sorted i (get_or sorted i d) order within (get_or_default sorted i d (get_or sorted i d) within)

  pub keeps_next : (longest other : Option Tenancy) → Keeps (take i sorted ++ get_or sorted i d ∷ []) longest other → Keeps (take (i + 1) sorted) longest other
  keeps_next longest other keeps = rw one_more keeps

  pub shown_next : (least : Option Breach) → IsSorted tenancy_cmp sorted → ClashesWithOne (take i sorted) (get_or sorted i d)
      → IsLeast (ShowsClash (take i sorted)) least → IsLeast (ShowsClash (take (i + 1) sorted)) (lesser least (Some (breach_of (get_or sorted i d))))
  shown_next least order clashes is = rw one_more (least_shown (take i sorted) (get_or sorted i d) (before_at order) least clashes is)

  pub kept_next : (least : Option Breach) → IsSorted tenancy_cmp sorted → ¬ ClashesWithOne (take i sorted) (get_or sorted i d)
      → IsLeast (ShowsClash (take i sorted)) least → IsLeast (ShowsClash (take (i + 1) sorted)) least
  kept_next least order none is = rw one_more (least_kept (take i sorted) (get_or sorted i d) (before_at order) least none is)
