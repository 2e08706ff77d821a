-- Decimal digits with leading zeros.
use Rattle.std.proofs.Common.{◌≡◌, ℕ, zero, suc, ◌+◌, ◌*◌, ◌/◌, ◌%◌, ◌^◌, ◌<◌, ◌≤◌, List, [], ◌∷◌, ◌++◌, length, take, drop, get_or, refl, sym, ◌∙◌, ap, subst, inl, inr, add-one, arith}
use Rattle.std.specs.Char.{digit_value}
use Rattle.std.specs.Int.{IsInRange}
use Rattle.std.specs.Str.Parse.{digits_value}
use Rattle.std.proofs.Math.Nat.{pow-suc, pow-le-pow_right}
use Rattle.std.proofs.Math.Seq.{take-suc, get_or-append_seam}
use Rattle.std.proofs.lemmas.Bool.{cases_lt}
use Rattle.std.proofs.lemmas.Bool.Decides.{nat_tests}
use Rattle.std.proofs.lemmas.Int.Digits.{digits_value_push}
use Rattle.std.proofs.lemmas.List.{length-append, get_or_append_left, take_at, drop_at}
use Rattle.watch_ring.specs.Names.{digits, field}

pub length-digits : (width n : ℕ) → length (digits width n) ≡ width
unfolding digits
length-digits zero n = refl
length-digits (suc width) n = length-append (digits width (n / 10)) ((48 + n % 10) ∷ []) ∙ omega (arith, length-digits width (n / 10))

digit_is : (d : ℕ) → d < 10 → digit_value (48 + d) ≡ d
digit_is d small = grind (arith, nat_tests)

-- the front of a number has one digit less
pub front_fits : (width n : ℕ) → n < 10 ^ suc width → n / 10 < 10 ^ width
front_fits width n small = omega (arith, pow-suc 10 width)

pub value-digits : (width n : ℕ) → n < 10 ^ width → digits_value 10 (digits width n) ≡ n
unfolding digits
value-digits zero n small = omega arith
value-digits (suc width) n small =
    digits_value_push 10 (digits width (n / 10)) (48 + n % 10)
    ∙ omega (arith, value-digits width (n / 10) (front_fits width n small), digit_is (n % 10) (omega arith))

-- each byte is a digit
pub digit_at : (width n i : ℕ) → i < width → IsInRange 48 57 (get_or (digits width n) i 0)
unfolding digits
digit_at zero n i lt = absurd (omega arith)
digit_at (suc width) n i lt =
    let front : List ℕ = digits width (n / 10) in
    let last : ℕ = 48 + n % 10 in
    let long : length front ≡ width = length-digits width (n / 10) in
    let P : ℕ → Type 0 = λ b. IsInRange 48 57 b in
    elim (cases_lt i width) [
      | inl below ↦ subst P (sym (get_or_append_left front (last ∷ []) 0 i (omega (arith, long)))) (digit_at width (n / 10) i below)
      | inr above ↦
          let here : get_or (front ++ last ∷ []) i 0 ≡ last = ap (λ (k : ℕ). get_or (front ++ last ∷ []) k 0) (omega (arith, long)) ∙ get_or-append_seam front last [] 0 in
          subst P (sym here) (omega arith, omega arith)
    ]

-- one digit more
pub digits_push : (bytes : List ℕ) (i n d : ℕ) → i < length bytes → take i bytes ≡ digits i n → get_or bytes i 0 ≡ 48 + d → d < 10 →
    take (i + 1) bytes ≡ digits (i + 1) (n * 10 + d)
unfolding digits
digits_push bytes i n d lt so_far here small =
    let front : n ≡ (n * 10 + d) / 10 = omega arith in
    let last : get_or bytes i 0 ≡ 48 + (n * 10 + d) % 10 = omega arith in
    rw add-one (take-suc bytes i 0 lt ∙ ap (λ (l : List ℕ). l ++ get_or bytes i 0 ∷ []) (so_far ∙ ap (digits i) front) ∙ ap (λ (b : ℕ). digits i ((n * 10 + d) / 10) ++ b ∷ []) last)

-- a number of at most 13 digits, and one digit more
pub room : (i n : ℕ) → i < 14 → n < 10 ^ i → n < 10 ^ 13
room i n lt small = omega (arith, pow-le-pow_right {n = 10} (omega arith) {i = i} {j = 13} (omega arith))

pub small_push : (i n d : ℕ) → n < 10 ^ i → d < 10 → n * 10 + d < 10 ^ (i + 1)
small_push i n d small digit = rw add-one (omega (arith, pow-suc 10 i))

-- equal digits are of equal numbers
pub digits_inj : (width m n : ℕ) → m < 10 ^ width → n < 10 ^ width → digits width m ≡ digits width n → m ≡ n
digits_inj width m n small also e = sym (value-digits width m small) ∙ ap (digits_value 10) e ∙ value-digits width n also

-- what follows the underscore of a field, in its parts
pub record FollowsField (tail : List ℕ) (width n : ℕ) (rest : List ℕ) : Type 0 where
  pub long : width ≤ length tail
  pub front : take width tail ≡ digits width n
  pub back : drop width tail ≡ rest

pub follows_field : (bytes : List ℕ) (first : ℕ) (tail : List ℕ) (width n : ℕ) (rest : List ℕ) → bytes ≡ first ∷ tail → bytes ≡ field width n ++ rest → FollowsField tail width n rest
follows_field bytes first tail width n rest e f =
    let same : tail ≡ digits width n ++ rest = cc in
    let long : length (digits width n) ≡ width = length-digits width n in
    record {
      long = omega (arith, long, ap length same ∙ length-append (digits width n) rest);
      front = ap (take width) same ∙ take_at (digits width n) rest width long;
      back = ap (drop width) same ∙ drop_at (digits width n) rest width long;
    }

-- the first byte of a field
pub first_of_field : (bytes : List ℕ) (first : ℕ) (tail : List ℕ) (width n : ℕ) (rest : List ℕ) → bytes ≡ first ∷ tail → bytes ≡ field width n ++ rest → first ≡ 95
first_of_field bytes first tail width n rest e f = cc
