-- Where a list's first element of a kind stands, and where it stands among the first ones.
use Rattle.std.proofs.Common.{◌≡◌, ◌<◌, ◌≤◌, ℕ, zero, suc, min, ◌+◌, Bool, true, false, not, cond, Option, Some, None, List, [], ◌∷◌, length, take, length-take, ap, sym, ◌∙◌, arith}
use Rattle.std.specs.Prelude.{nat_lt, position}
use Rattle.std.specs.List.{prefix_len, position_or_len}
use Rattle.std.proofs.lemmas.List.Sums.{prefix_len-le-length}
use Rattle.std.proofs.lemmas.Bool.Decides.{nat_tests}

prefix_of_cons : (b : Bool) (n k : ℕ) → cond b (1 + min n k) 0 ≡ min (suc n) (cond b (1 + k) 0)
prefix_of_cons true n k = omega arith
prefix_of_cons false n k = omega arith

prefix_len-take : {X : Type 0} (p : X → Bool) (n : ℕ) (xs : List X) → prefix_len p (take n xs) ≡ min n (prefix_len p xs)
prefix_len-take p zero xs = omega arith
prefix_len-take p (suc n) [] = omega arith
prefix_len-take p (suc n) (x ∷ xs) = ap (λ k. cond (p x) (1 + k) 0) (prefix_len-take p n xs) ∙ prefix_of_cons (p x) n (prefix_len p xs)

-- the place, or the length where there is none
placed : ℕ → ℕ → Option ℕ
placed k size = cond (nat_lt k size) (Some k) None

position-take : {X : Type 0} (p : X → Bool) (n : ℕ) (xs : List X) → position p (take n xs) ≡ cond (nat_lt (min n (position_or_len p xs)) (min n (length xs))) (Some (min n (position_or_len p xs))) None
position-take p n xs =
    ap (λ k. cond (nat_lt k (length (take n xs))) (Some k) None) (prefix_len-take (λ x. not (p x)) n xs)
    ∙ ap (λ size. cond (nat_lt (min n (position_or_len p xs)) size) (Some (min n (position_or_len p xs))) None) (length-take n xs)

none_among : (k size n : ℕ) → k ≤ size → None ≡ cond (nat_lt k size) (Some k) None → None ≡ cond (nat_lt (min n k) (min n size)) (Some (min n k)) None
none_among k size n fits none = grind (arith, nat_tests)

none_behind : (k size n i : ℕ) → Some i ≡ cond (nat_lt k size) (Some k) None → n ≤ i → None ≡ cond (nat_lt (min n k) (min n size)) (Some (min n k)) None
none_behind k size n i is far = grind (arith, nat_tests)

one_among : (k size n i : ℕ) → Some i ≡ cond (nat_lt k size) (Some k) None → i < n → Some i ≡ cond (nat_lt (min n k) (min n size)) (Some (min n k)) None
one_among k size n i is near = grind (arith, nat_tests)

module _ {X : Type 0} (p : X → Bool) (n : ℕ) (xs : List X) where
  pub nowhere : None ≡ position p xs → None ≡ position p (take n xs)
  nowhere none = none_among (position_or_len p xs) (length xs) n (prefix_len-le-length (λ x. not (p x)) xs) none ∙ sym (position-take p n xs)

  pub too_far : (i : ℕ) → Some i ≡ position p xs → n ≤ i → None ≡ position p (take n xs)
  too_far i is far = none_behind (position_or_len p xs) (length xs) n i is far ∙ sym (position-take p n xs)

  pub within : (i : ℕ) → Some i ≡ position p xs → i < n → Some i ≡ position p (take n xs)
  within i is near = one_among (position_or_len p xs) (length xs) n i is near ∙ sym (position-take p n xs)
