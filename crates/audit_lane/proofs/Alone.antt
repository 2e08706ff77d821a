-- One element of a list, as the list of it alone.
use Rattle.std.proofs.Common.{◌≡◌, ◌<◌, ◌≤◌, ℕ, zero, suc, List, [], ◌∷◌, length, take, drop, refl, arith}
use Rattle.std.specs.Prelude.{option_to_list, slice_get}

there : {A : Type 0} (xs : List A) (n : ℕ) → n < length xs → take 1 (drop n xs) ≡ option_to_list (slice_get xs n)
there [] n lt = absurd (omega (arith, lt))
there (x ∷ xs) zero lt = refl
there (x ∷ xs) (suc n) lt = there xs n (omega (arith, lt))

pub alone : {A : Type 0} (xs : List A) (n m : ℕ) → m ≡ 1 → n < length xs → take m (drop n xs) ≡ option_to_list (slice_get xs n)
alone xs n m one lt = rw (one) (there xs n lt)

pub past : {A : Type 0} (xs : List A) (n : ℕ) → length xs ≤ n → [] ≡ option_to_list (slice_get xs n)
past [] n le = refl
past (x ∷ xs) zero le = absurd (omega (arith, le))
past (x ∷ xs) (suc n) le = past xs n (omega (arith, le))
