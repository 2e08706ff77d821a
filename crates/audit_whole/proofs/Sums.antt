-- Sums over the sightings of an intake, interface by interface.
use Rattle.std.proofs.Common.{◌≡◌, ◌≤◌, ◌+◌, ℕ, zero, suc, Option, Some, None, List, [], ◌∷◌, length, refl, sym, subst, arith}
use Rattle.std.specs.Prelude.{option_and_then, slice_get, sum_by}
use Rattle.std.proofs.lemmas.Option.{none-some, same_Some}
use Rattle.std.proofs.lemmas.List.Sums.{sum_by-cons}
use Rattle.audit_model.specs.declared.sighting.SightId.{SightId}
use Rattle.audit_model.specs.declared.sighting.Sighting.{Sighting}
use Rattle.audit_sightings.specs.ByInterface.{count_of}
use Rattle.audit_sightings.specs.Intake.{Taken, sighting_at}

abbrev name_of : ℕ → ℕ → SightId
name_of i j = record { iface = i; index = j }

-- over an interface's sightings from a place on
abbrev row_sum : (SightId → ℕ) → ℕ → ℕ → List Sighting → ℕ
row_sum f i j [] = 0
row_sum f i j (x ∷ xs) = f (name_of i j) + row_sum f i (j + 1) xs

-- over the interfaces from a number on
abbrev all_sum : (SightId → ℕ) → ℕ → List (List Sighting) → ℕ
all_sum f i [] = 0
all_sum f i (row ∷ rows) = row_sum f i 0 row + all_sum f (i + 1) rows

row_more : (f g : SightId → ℕ) → ((s : SightId) → f s ≤ g s) → (i j : ℕ) (xs : List Sighting) → row_sum f i j xs ≤ row_sum g i j xs
row_more f g h i j [] = omega arith
row_more f g h i j (x ∷ xs) = omega (arith, h (name_of i j), row_more f g h i (j + 1) xs)

all_more : (f g : SightId → ℕ) → ((s : SightId) → f s ≤ g s) → (i : ℕ) (rows : List (List Sighting)) → all_sum f i rows ≤ all_sum g i rows
all_more f g h i [] = omega arith
all_more f g h i (row ∷ rows) = omega (arith, row_more f g h i 0 row, all_more f g h (i + 1) rows)

row_plus : (f g : SightId → ℕ) (i j : ℕ) (xs : List Sighting) → row_sum (λ s. f s + g s) i j xs ≡ row_sum f i j xs + row_sum g i j xs
row_plus f g i j [] = omega arith
row_plus f g i j (x ∷ xs) = omega (arith, row_plus f g i (j + 1) xs)

all_plus : (f g : SightId → ℕ) (i : ℕ) (rows : List (List Sighting)) → all_sum (λ s. f s + g s) i rows ≡ all_sum f i rows + all_sum g i rows
all_plus f g i [] = omega arith
all_plus f g i (row ∷ rows) = omega (arith, row_plus f g i 0 row, all_plus f g (i + 1) rows)

row_ones : (f : SightId → ℕ) → ((s : SightId) → f s ≤ 1) → (i j : ℕ) (xs : List Sighting) → row_sum f i j xs ≤ length xs
row_ones f h i j [] = omega arith
row_ones f h i j (x ∷ xs) = omega (arith, h (name_of i j), row_ones f h i (j + 1) xs)

all_ones : (f : SightId → ℕ) → ((s : SightId) → f s ≤ 1) → (i : ℕ) (rows : List (List Sighting)) → all_sum f i rows ≤ sum_by length rows
all_ones f h i [] = omega arith
all_ones f h i (row ∷ rows) = omega (arith, row_ones f h i 0 row, all_ones f h (i + 1) rows, sum_by-cons (λ (xs : List Sighting). length xs) row rows)

row_at : (f : SightId → ℕ) (i j n : ℕ) (xs : List Sighting) (x : Sighting) → slice_get xs n ≡ Some x → f (name_of i (j + n)) ≤ row_sum f i j xs
row_at f i j n [] x h = absurd (none-some x h)
row_at f i j zero (y ∷ ys) x h = let e : j ≡ j + 0 = omega arith in subst (λ (k : ℕ). f (name_of i k) ≤ f (name_of i j) + row_sum f i (j + 1) ys) e (omega arith)
row_at f i j (suc n) (y ∷ ys) x h =
    let e : (j + 1) + n ≡ j + suc n = omega arith in
    let rest : f (name_of i (j + suc n)) ≤ row_sum f i (j + 1) ys = subst (λ (k : ℕ). f (name_of i k) ≤ row_sum f i (j + 1) ys) e (row_at f i (j + 1) n ys x h) in omega arith

all_at : (f : SightId → ℕ) (i m n : ℕ) (rows : List (List Sighting)) (row : List Sighting) (x : Sighting) → slice_get rows m ≡ Some row → slice_get row n ≡ Some x → f (name_of (i + m) n) ≤ all_sum f i rows
all_at f i m n [] row x h k = absurd (none-some row h)
all_at f i zero n (r ∷ rs) row x h k =
    let e : i ≡ i + 0 = omega arith in
    let none : 0 + n ≡ n = omega arith in
    let here : f (name_of i n) ≤ row_sum f i 0 r = subst (λ (m : ℕ). f (name_of i m) ≤ row_sum f i 0 r) none (row_at f i 0 n r x (subst (λ (xs : List Sighting). slice_get xs n ≡ Some x) (sym (same_Some r row h)) k)) in
    subst (λ (l : ℕ). f (name_of l n) ≤ row_sum f i 0 r + all_sum f (i + 1) rs) e (omega arith)
all_at f i (suc m) n (r ∷ rs) row x h k =
    let e : (i + 1) + m ≡ i + suc m = omega arith in
    let rest : f (name_of (i + suc m) n) ≤ all_sum f (i + 1) rs = subst (λ (l : ℕ). f (name_of l n) ≤ all_sum f (i + 1) rs) e (all_at f (i + 1) m n rs row x h k) in omega arith

module _ (taken : Taken) where
  -- over all sightings
  abbrev pub total : (SightId → ℕ) → ℕ
  total f = all_sum f 0 taken.interfaces

  pub total_more : (f g : SightId → ℕ) → ((s : SightId) → f s ≤ g s) → total f ≤ total g
  total_more f g h = all_more f g h 0 taken.interfaces

  pub total_plus : (f g : SightId → ℕ) → total (λ s. f s + g s) ≡ total f + total g
  total_plus f g = all_plus f g 0 taken.interfaces

  pub total_ones : (f : SightId → ℕ) → ((s : SightId) → f s ≤ 1) → total f ≤ count_of taken.interfaces
  total_ones f h = all_ones f h 0 taken.interfaces

  -- the interface that a sighting is of
  pub row_there : (s : SightId) (row : Option (List Sighting)) (x : Sighting) → slice_get taken.interfaces s.iface ≡ row → option_and_then (λ (r : List Sighting). slice_get r s.index) row ≡ Some x →
      (r : List Sighting) × (slice_get taken.interfaces s.iface ≡ Some r) × (slice_get r s.index ≡ Some x)
  row_there s None x e h = absurd (none-some x h)
  row_there s (Some r) x e h = (r, e, h)

  pub total_at : (f : SightId → ℕ) (s : SightId) (x : Sighting) → sighting_at taken s ≡ Some x → f s ≤ total f
  total_at f s x h =
      let r = row_there s (slice_get taken.interfaces s.iface) x refl h in
      let none : 0 + s.iface ≡ s.iface = omega arith in
      subst (λ (i : ℕ). f (name_of i s.index) ≤ total f) none (all_at f 0 s.iface s.index taken.interfaces r.0 x r.1 r.2)
