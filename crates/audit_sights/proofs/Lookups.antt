-- What a look-up finds in a list of pairs, and what an edit of the list does to it.
use Rattle.std.proofs.Common.{◌≡◌, ◌≢◌, ◌<◌, ℕ, zero, suc, cond, eqb, List, [], ◌∷◌, ◌++◌, Some, None, length, get_or, set, refl, sym, ap, arith, length-set}
use Rattle.std.specs.Map.{keys_of}
use Rattle.std.proofs.lemmas.Bool.Decides.{nat_tests}
use Rattle.audit_sights.specs.Pairs.{value_at, index_at, Rises, IsAt, IsNowhere, IsPast}

module _ {V : Type 0} where
  -- no pair before that place has the index
  abbrev pub IsNotBefore : List (ℕ × V) → ℕ → ℕ → Type 0
  IsNotBefore pairs index place = (k : ℕ) → k < place → index_at pairs k ≢ index

  -- a look-up finds the value at the index, and at each other what it found in the old pairs
  abbrev pub Sets : List (ℕ × V) → List (ℕ × V) → ℕ → V → Type 0
  Sets old new index value = (q : ℕ) → value_at new q ≡ cond (eqb q index) (Some value) (value_at old q)

  pub not_found : (pairs : List (ℕ × V)) (index : ℕ) → IsNowhere pairs index → value_at pairs index ≡ None
  not_found [] index nowhere = refl
  not_found (x ∷ xs) index nowhere = grind (arith, nat_tests, nowhere 0 (omega arith), not_found xs index (λ k bound. nowhere (suc k) (omega arith)))

  pub found_at : (pairs : List (ℕ × V)) (index place : ℕ) (d : ℕ × V) → IsAt pairs index place → IsNotBefore pairs index place → value_at pairs index ≡ Some (get_or pairs place d).1
  found_at [] index place d at before = absurd (omega (arith, at.0))
  found_at (x ∷ xs) index zero d at before = grind (arith, nat_tests, at.1)
  found_at (x ∷ xs) index (suc place) d at before = grind (arith, nat_tests, before 0 (omega arith), found_at xs index place d (omega (arith, at.0), at.1) (λ k below. before (suc k) (omega arith)))

  pub set_at : (pairs : List (ℕ × V)) (index place : ℕ) (value : V) → IsAt pairs index place → IsNotBefore pairs index place → Sets pairs (set pairs place (index, value)) index value
  set_at [] index place value at before q = absurd (omega (arith, at.0))
  set_at (x ∷ xs) index zero value at before q = grind (arith, nat_tests, at.1)
  set_at (x ∷ xs) index (suc place) value at before q = grind (arith, nat_tests, before 0 (omega arith), set_at xs index place value (omega (arith, at.0), at.1) (λ k below. before (suc k) (omega arith)) q)

  pub set_past : (pairs : List (ℕ × V)) (index : ℕ) (value : V) → IsPast pairs index → Sets pairs (pairs ++ (index, value) ∷ []) index value
  set_past [] index value past q = refl
  set_past (x ∷ xs) index value past q = grind (arith, nat_tests, past 0 (omega arith), set_past xs index value (λ k bound. past (suc k) (omega arith)) q)

  -- where the indices rise, none before a place is the one there
  pub not_before : (pairs : List (ℕ × V)) (index place : ℕ) → Rises pairs → IsAt pairs index place → IsNotBefore pairs index place
  not_before pairs index place rises at k below same = omega (arith, rises k place below at.0, at.1, same)

  -- a value more at an index that is there leaves the indices as they are
  keys_set : (pairs : List (ℕ × V)) (index place : ℕ) (value : V) → IsAt pairs index place → keys_of (set pairs place (index, value)) ≡ keys_of pairs
  keys_set [] index place value at = absurd (omega (arith, at.0))
  keys_set (x ∷ xs) index zero value at = ap (λ i. i ∷ keys_of xs) (sym at.1)
  keys_set (x ∷ xs) index (suc place) value at = ap (λ is. x.0 ∷ is) (keys_set xs index place value (omega (arith, at.0), at.1))

  pub rises_set : (pairs : List (ℕ × V)) (index place : ℕ) (value : V) → Rises pairs → IsAt pairs index place → Rises (set pairs place (index, value))
  rises_set pairs index place value rises at i j below bound =
      let same = keys_set pairs index place value at in
      let inside : j < length pairs = omega (arith, bound, length-set pairs place (index, value)) in
      let here : index_at (set pairs place (index, value)) i ≡ index_at pairs i = ap (λ is. get_or is i 0) same in
      let there : index_at (set pairs place (index, value)) j ≡ index_at pairs j = ap (λ is. get_or is j 0) same in
      omega (arith, rises i j below inside, here, there)
