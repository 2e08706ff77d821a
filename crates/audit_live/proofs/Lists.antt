-- What a list has, and what one has of which a place was set.
use Rattle.std.proofs.Common.{◌≡◌, ◌<◌, ◌⊎◌, inl, inr, ℕ, zero, suc, List, [], ◌∷◌, ◌++◌, length, map, min, drop, Option, Some, None, refl, sym, ap, ◌∙◌, subst, arith, length-append}
use Rattle.std.specs.Prelude.{Contains, slice_get, option_to_list}
use Rattle.std.specs.List.{flat_map}
use Rattle.std.proofs.lemmas.Option.{none-some, same_Some}
use Rattle.std.proofs.lemmas.List.Elements.{Contains-append_left, Contains-append_right, Contains-append_cases}
use Rattle.std.proofs.Math.Seq.{drop-append_seam}

pub contains_none : {X : Type 0} (y : X) → Contains [] y → ⊥
contains_none y c = omega (arith, c.1)

pub contains_head : {X : Type 0} (x : X) (xs : List X) → Contains (x ∷ xs) x
contains_head x xs = (0, omega arith, refl)

pub contains_tail : {X : Type 0} (x y : X) (xs : List X) → Contains xs y → Contains (x ∷ xs) y
contains_tail x y xs (k, within, is) = (suc k, omega (arith, within), is)

pub contains_cases : {X : Type 0} (x y : X) (xs : List X) → Contains (x ∷ xs) y → (x ≡ y) ⊎ Contains xs y
contains_cases x y xs (zero, within, is) = inl is
contains_cases x y xs (suc k, within, is) = inr (k, omega (arith, within), is)

module _ {X Y : Type 0} (f : X → List Y) where
  pub in_flat : (xs : List X) (y : Y) → Contains (flat_map f xs) y → (x : X) × Contains xs x × Contains (f x) y
  in_flat [] y c = absurd (contains_none y c)
  in_flat (x ∷ xs) y c = elim (Contains-append_cases (f x) (flat_map f xs) y c) [
    | inl here ↦ (x, contains_head x xs, here)
    | inr there ↦ let rest = in_flat xs y there in (rest.0, contains_tail x rest.0 xs rest.1, rest.2)
  ]

  pub to_flat : (xs : List X) (x : X) (y : Y) → Contains xs x → Contains (f x) y → Contains (flat_map f xs) y
  to_flat [] x y c k = absurd (contains_none x c)
  to_flat (z ∷ xs) x y c k = elim (contains_cases z x xs c) [
    | inl is ↦ Contains-append_left (f z) (flat_map f xs) y (subst (λ (v : X). Contains (f v) y) (sym is) k)
    | inr there ↦ Contains-append_right (f z) (flat_map f xs) y (to_flat xs x y there k)
  ]

-- what an option has
pub in_some : {X : Type 0} (o : Option X) (x : X) → Contains (option_to_list o) x → o ≡ Some x
in_some None x c = absurd (contains_none x c)
in_some (Some y) x c = elim (contains_cases y x [] c) [ inl is ↦ ap Some is | inr there ↦ absurd (contains_none x there) ]

pub some_in : {X : Type 0} (o : Option X) (x : X) → o ≡ Some x → Contains (option_to_list o) x
some_in {X} o x is = subst (λ (p : Option X). Contains (option_to_list p) x) (sym is) (contains_head x [])

-- what comes after as many as there are
pub drop_append : {X : Type 0} (xs ys : List X) (n : ℕ) → n ≡ length xs → drop (min n (length (xs ++ ys))) (xs ++ ys) ≡ ys
drop_append xs ys n is =
    let few : min n (length (xs ++ ys)) ≡ length xs = omega (arith, is, length-append xs ys) in
    ap (λ k. drop k (xs ++ ys)) few ∙ drop-append_seam xs ys

-- ---- what stands at a place

pub there_is : {X : Type 0} (xs : List X) (i : ℕ) → i < length xs → (x : X) × (slice_get xs i ≡ Some x)
there_is [] i within = absurd (omega (arith, within))
there_is (x ∷ xs) zero within = (x, refl)
there_is (x ∷ xs) (suc i) within = there_is xs i (omega (arith, within))

pub at_contains : {X : Type 0} (xs : List X) (i : ℕ) (x : X) → slice_get xs i ≡ Some x → Contains xs x
at_contains [] i x there = absurd (none-some x there)
at_contains (y ∷ xs) zero x there = subst (λ (z : _). Contains (y ∷ xs) z) (same_Some y x there) (contains_head y xs)
at_contains (y ∷ xs) (suc i) x there = contains_tail y x xs (at_contains xs i x there)

pub to_map : {X Y : Type 0} (g : X → Y) (xs : List X) (x : X) → Contains xs x → Contains (map g xs) (g x)
to_map g [] x c = absurd (contains_none x c)
to_map g (y ∷ xs) x c = elim (contains_cases y x xs c) [
  | inl is ↦ subst (λ (z : _). Contains (g y ∷ map g xs) (g z)) is (contains_head (g y) (map g xs))
  | inr there ↦ contains_tail (g y) (g x) (map g xs) (to_map g xs x there)
]

pub of_map : {X Y : Type 0} (g : X → Y) (xs : List X) (y : Y) → Contains (map g xs) y → (x : X) × (g x ≡ y)
of_map g [] y c = absurd (contains_none y c)
of_map g (x ∷ xs) y c = elim (contains_cases (g x) y (map g xs) c) [ inl is ↦ (x, is) | inr there ↦ of_map g xs y there ]

-- what stands in two lists stands in the first or in the second
pub get_either : {X : Type 0} (xs ys : List X) (i : ℕ) (x : X) → slice_get (xs ++ ys) i ≡ Some x → (slice_get xs i ≡ Some x) ⊎ Contains ys x
get_either [] ys i x there = inr (at_contains ys i x there)
get_either (y ∷ xs) ys zero x there = inl there
get_either (y ∷ xs) ys (suc i) x there = get_either xs ys i x there
