-- Where a pair stands in a list whose indices rise.
use Rattle.std.proofs.Common.{◌≡◌, ◌<◌, ◌≤◌, ◌+◌, ℕ, List, length, get_or, ap, ◌⊎◌, inl, inr, arith}
use Rattle.std.proofs.lemmas.Bool.{cases_lt}
use Rattle.std.proofs.lemmas.List.{get_or-map}
use Rattle.audit_sights.specs.Pairs.{index_at, Rises, IsWithin, IsPast}

module _ {V : Type 0} (pairs : List (ℕ × V)) where
  -- the index of the pair that is read at a place
  pub index_is : (i : ℕ) (d : ℕ × V) → i < length pairs → index_at pairs i ≡ (get_or pairs i d).0
  index_is i d inside = get_or-map (λ (p : ℕ × V). p.0) pairs i d 0 inside

  module _ (rises : Rises pairs) (index low high middle : ℕ) (within : IsWithin pairs index low high) (inside : middle < length pairs) where
    -- no pair before one with at most the index
    pub within_above : index_at pairs middle ≤ index → IsWithin pairs index middle high
    within_above at_most k bound is = elim (cases_lt k middle) [
      | inl below ↦ absurd (omega (arith, rises k middle below inside, is, at_most))
      | inr above ↦ (above, (within k bound is).1)
    ]

    -- and none from one with more on
    pub within_below : index < index_at pairs middle → IsWithin pairs index low middle
    within_below more k bound is = elim (cases_lt k middle) [
      | inl below ↦ ((within k bound is).0, below)
      | inr above ↦ absurd (not_here k bound is above (cases_lt middle k))
    ]
      where
        not_here : (k : ℕ) → k < length pairs → index_at pairs k ≡ index → middle ≤ k → (middle < k) ⊎ (k ≤ middle) → ⊥
        not_here k bound is above (inl past) = omega (arith, rises middle k past bound, is, more)
        not_here k bound is above (inr at_most) = let same : k ≡ middle = omega arith in omega (arith, more, is, ap (index_at pairs) same)

  -- what is past the last index is past each
  pub past_last : (index last : ℕ) → Rises pairs → length pairs ≡ last + 1 → index_at pairs last < index → IsPast pairs index
  past_last index last rises is past k bound = elim (cases_lt k last) [
    | inl below ↦ omega (arith, rises k last below (omega arith), past)
    | inr above ↦ let same : k ≡ last = omega arith in omega (arith, past, ap (index_at pairs) same)
  ]
