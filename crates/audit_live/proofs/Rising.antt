-- Lists of numbers that rise.
use Rattle.std.proofs.Common.{◌≡◌, ◌<◌, ◌≤◌, ◌+◌, ℕ, zero, suc, Bool, true, false, cond, List, [], ◌∷◌, ◌++◌, length, map, refl, sym, ap, ◌∙◌, subst, arith, ◌⊎◌, inl, inr}
use Rattle.std.specs.Prelude.{Contains, filter, ◌↔◌}
use Rattle.std.specs.List.{AllByRecursion}
use Rattle.std.specs.List.Sorted.{IsStrictlySortedBy}
use Rattle.std.specs.Ordering.{nat_cmp}
use Rattle.std.specs.declared.cmp.Ordering.TheVariants.{Less}
use Rattle.std.proofs.lemmas.Cmp.{ranked}
use Rattle.audit_live.specs.Owed.{Rise}
use Rattle.audit_live.proofs.Lists.{contains_cases, contains_head, contains_none, contains_tail}

below_all : (x : ℕ) (ys : List ℕ) → AllByRecursion (λ y. nat_cmp x y ≡ Less) ys → AllByRecursion (λ y. x < y) ys
below_all x [] all = tt
below_all x (y ∷ ys) all = (ranked x y Less (sym all.0), below_all x ys all.1)

pub rise_of : (xs : List ℕ) → IsStrictlySortedBy nat_cmp xs → Rise xs
unfolding IsStrictlySortedBy
rise_of [] sorted = tt
rise_of (x ∷ xs) sorted = (below_all x xs sorted.0, rise_of xs sorted.1)

pub all_at : {X : Type 0} (P : X → Type 0) (xs : List X) (x : X) → AllByRecursion P xs → Contains xs x → P x
all_at P [] x all c = absurd (contains_none x c)
all_at P (y ∷ ys) x all c = elim (contains_cases y x ys c) [ inl is ↦ subst P is all.0 | inr there ↦ all_at P ys x all.1 there ]

pub all_from : {X : Type 0} (P : X → Type 0) (xs : List X) → ((x : X) → Contains xs x → P x) → AllByRecursion P xs
all_from P [] each = tt
all_from P (x ∷ xs) each = (each x (contains_head x xs), all_from P xs (λ y c. each y (contains_tail x y xs c)))

-- one more after them, above all
pub rise_push : (xs : List ℕ) (n : ℕ) → Rise xs → ((x : ℕ) → Contains xs x → x < n) → Rise (xs ++ n ∷ [])
rise_push [] n rise below = (tt, tt)
rise_push (x ∷ xs) n rise below = (push_all xs rise.0, rise_push xs n rise.1 (λ y c. below y (contains_tail x y xs c))) where
  push_all : (ys : List ℕ) → AllByRecursion (λ y. x < y) ys → AllByRecursion (λ y. x < y) (ys ++ n ∷ [])
  push_all [] all = (below x (contains_head x xs), tt)
  push_all (y ∷ ys) all = (all.0, push_all ys all.1)

-- of a list that is filtered
module _ {X : Type 0} (f : X → ℕ) (keep : X → Bool) where
  in_kept : (y : X) (ys : List X) (x : X) → (Contains (filter keep ys) x → Contains ys x × (keep x ≡ true)) → (b : Bool) → keep y ≡ b → Contains (cond b (y ∷ filter keep ys) (filter keep ys)) x
      → Contains (y ∷ ys) x × (keep x ≡ true)
  in_kept y ys x rest true is c = elim (contains_cases y x (filter keep ys) c) [
    | inl same ↦ (subst (Contains (y ∷ ys)) same (contains_head y ys), subst (λ (z : X). keep z ≡ true) same is)
    | inr there ↦ let found = rest there in (contains_tail y x ys found.0, found.1)
  ]
  in_kept y ys x rest false is c = let found = rest c in (contains_tail y x ys found.0, found.1)

  pub in_filter : (xs : List X) (x : X) → Contains (filter keep xs) x → Contains xs x × (keep x ≡ true)
  in_filter [] x c = absurd (contains_none x c)
  in_filter (y ∷ ys) x c = in_kept y ys x (in_filter ys x) (keep y) refl c

  to_kept : (y : X) (ys : List X) (x : X) → keep x ≡ true → (Contains ys x → Contains (filter keep ys) x) → (b : Bool) → keep y ≡ b → (y ≡ x) ⊎ Contains ys x
      → Contains (cond b (y ∷ filter keep ys) (filter keep ys)) x
  to_kept y ys x is rest true at (inl same) = subst (Contains (y ∷ filter keep ys)) same (contains_head y (filter keep ys))
  to_kept y ys x is rest true at (inr there) = contains_tail y x (filter keep ys) (rest there)
  to_kept y ys x is rest false at (inl same) = absurd (let no : true ≡ false = sym is ∙ ap keep (sym same) ∙ at in cc)
  to_kept y ys x is rest false at (inr there) = rest there

  pub to_filter : (xs : List X) (x : X) → Contains xs x → keep x ≡ true → Contains (filter keep xs) x
  to_filter [] x c is = absurd (contains_none x c)
  to_filter (y ∷ ys) x c is = to_kept y ys x is (λ there. to_filter ys x there is) (keep y) refl (contains_cases y x ys c)

  kept_all : (P : ℕ → Type 0) (x : X) (xs : List X) → P (f x) → AllByRecursion P (map f (filter keep xs)) → (b : Bool) → AllByRecursion P (map f (cond b (x ∷ filter keep xs) (filter keep xs)))
  kept_all P x xs one rest true = (one, rest)
  kept_all P x xs one rest false = rest

  all_kept : (P : ℕ → Type 0) (xs : List X) → AllByRecursion P (map f xs) → AllByRecursion P (map f (filter keep xs))
  all_kept P [] all = tt
  all_kept P (x ∷ xs) all = kept_all P x xs all.0 (all_kept P xs all.1) (keep x)

  kept_rise : (x : X) (xs : List X) → AllByRecursion (λ y. f x < y) (map f (filter keep xs)) → Rise (map f (filter keep xs)) → (b : Bool) → Rise (map f (cond b (x ∷ filter keep xs) (filter keep xs)))
  kept_rise x xs above rest true = (above, rest)
  kept_rise x xs above rest false = rest

  pub rise_filter : (xs : List X) → Rise (map f xs) → Rise (map f (filter keep xs))
  rise_filter [] rise = tt
  rise_filter (x ∷ xs) rise = kept_rise x xs (all_kept (λ y. f x < y) xs rise.0) (rise_filter xs rise.1) (keep x)

-- what a mapped list has comes of one
pub from_map : {X : Type 0} (f : X → ℕ) (xs : List X) (n : ℕ) → Contains (map f xs) n → (x : X) × Contains xs x × (f x ≡ n)
from_map f [] n c = absurd (contains_none n c)
from_map f (x ∷ xs) n c = elim (contains_cases (f x) n (map f xs) c) [
  | inl is ↦ (x, contains_head x xs, is)
  | inr there ↦ let rest = from_map f xs n there in (rest.0, contains_tail x rest.0 xs rest.1, rest.2)
]

-- rising lists with the same numbers are as long
head_is : (x y : ℕ) (xs ys : List ℕ) → Rise (x ∷ xs) → Rise (y ∷ ys) → ((n : ℕ) → Contains (x ∷ xs) n ↔ Contains (y ∷ ys) n) → x ≡ y
head_is x y xs ys rise rise_other same = by_places (contains_cases y x ys ((same x).0 (contains_head x xs))) (contains_cases x y xs ((same y).1 (contains_head y ys))) where
  by_places : (y ≡ x) ⊎ Contains ys x → (x ≡ y) ⊎ Contains xs y → x ≡ y
  by_places (inl is) other = sym is
  by_places (inr there) (inl is) = is
  by_places (inr there) (inr here) = absurd (omega (arith, all_at (λ n. y < n) ys x rise_other.0 there, all_at (λ n. x < n) xs y rise.0 here))

tail_of : (x : ℕ) (xs ys : List ℕ) → Rise (x ∷ xs) → ((n : ℕ) → Contains (x ∷ xs) n → Contains (x ∷ ys) n) → (n : ℕ) → Contains xs n → Contains ys n
tail_of x xs ys rise all n c = elim (contains_cases x n ys (all n (contains_tail x n xs c))) [
  | inl is ↦ absurd (let above : x < n = all_at (λ m. x < m) xs n rise.0 c in omega (arith, above, is))
  | inr there ↦ there
]

pub same_count : (xs ys : List ℕ) → Rise xs → Rise ys → ((n : ℕ) → Contains xs n ↔ Contains ys n) → length xs ≡ length ys
same_count [] [] rise rise_other same = refl
same_count [] (y ∷ ys) rise rise_other same = absurd (contains_none y ((same y).1 (contains_head y ys)))
same_count (x ∷ xs) [] rise rise_other same = absurd (contains_none x ((same x).0 (contains_head x xs)))
same_count (x ∷ xs) (y ∷ ys) rise rise_other same =
    let is : x ≡ y = head_is x y xs ys rise rise_other same in
    let other : Rise (x ∷ ys) = subst (λ (n : ℕ). Rise (n ∷ ys)) (sym is) rise_other in
    ap suc (same_count xs ys rise.1 rise_other.1 (λ n. (
      tail_of x xs ys rise (λ k c. subst (λ (m : ℕ). Contains (m ∷ ys) k) (sym is) ((same k).0 c)) n,
      tail_of x ys xs other (λ k c. (same k).1 (subst (λ (m : ℕ). Contains (m ∷ ys) k) is c)) n,
    )))
