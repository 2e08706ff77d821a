-- Numbers in decimal.
use Rattle.std.proofs.Common.{◌≡◌, ℕ, ◌+◌, ◌-◌, ◌*◌, ◌<◌, ◌≤◌, ◌^◌, Bool, true, false, cond, eqb, ltb, leb, List, [], ◌∷◌, length, take, get_or, Result, Ok, Err, refl, sym, ap, ◌∙◌, arith, rules}
use Rattle.std.specs.List.{list_all}
use Rattle.std.specs.Char.{is_ascii_digit, digit_value}
use Rattle.std.specs.Fmt.{decimal}
use Rattle.std.specs.Str.Parse.{digits_value}
use Rattle.std.proofs.lemmas.Fmt.{decimal-digits_value, digits_decimal, digits_value-decimal, first_decimal, decimal_digit, decimal_nonempty}
use Rattle.std.proofs.lemmas.Str.Parse.{IsNumeralModel, IsDigitsTest, numerals_by_value, digit_at, digits_value-take-le}
use Rattle.std.proofs.lemmas.Int.Digits.{digits_value_more}
use Rattle.std.proofs.lemmas.Bool.Decides.{nat_tests}
use Rattle.std.proofs.lemmas.Bool.{le-leb, leb-true, ne_eqb, cases_lt}
use Rattle.std.specs.Result.{IfOk}
use Rattle.std.specs.Prelude.{◌&&◌}
use Rattle.std.proofs.Common.{subst, inl, inr}
use Rattle.std.proofs.Math.Bool.{and-false}
use Rattle.audit_text.specs.declared.token.TokenFault.{TokenFault}
use Rattle.audit_text.specs.declared.token.TokenFault.TheVariants.{Shape, Number}
use Rattle.audit_text.specs.Token.{number_of, up_to}

abbrev pub are_digits : List ℕ → Type 0
are_digits bytes = list_all is_ascii_digit bytes ≡ true

tells : IsDigitsTest are_digits
tells = search rules

pub own : IsNumeralModel are_digits (digits_value 10)
own = numerals_by_value are_digits tells

digit_is : (c : ℕ) → 48 ≤ c → c ≤ 57 → digit_value c ≡ c - 48
digit_is c low high = grind (arith, nat_tests)

-- a byte of digits is one
pub digit_here : (bytes : List ℕ) (i : ℕ) → are_digits bytes → i < length bytes → (48 ≤ get_or bytes i 0) × (get_or bytes i 0 ≤ 57)
digit_here bytes i all lt = let r = digit_at bytes i (own.to bytes all) lt in (omega (arith, r), omega (arith, r))

-- the value of one digit more
pub value_more : (bytes : List ℕ) (i : ℕ) → are_digits bytes → i < length bytes →
    digits_value 10 (take (i + 1) bytes) ≡ digits_value 10 (take i bytes) * 10 + (get_or bytes i 0 - 48)
value_more bytes i all lt =
    let here = digit_here bytes i all lt in
    digits_value_more 10 bytes i lt ∙ ap (λ n. digits_value 10 (take i bytes) * 10 + n) (digit_is (get_or bytes i 0) here.0 here.1)

-- the whole is at least as large as a front of it
pub value_over : (bytes : List ℕ) (i most : ℕ) → are_digits bytes → i < length bytes →
    most < digits_value 10 (take i bytes) * 10 + (get_or bytes i 0 - 48) → digits_value 10 bytes ≤ most → ⊥
value_over bytes i most all lt over within =
    omega (arith, value_more bytes i all lt, digits_value-take-le 10 bytes (i + 1) (omega arith))

-- a test and what follows from it
at_most : (most value : ℕ) (P : ℕ → Type 0) → (value ≤ most → P value) → IfOk (up_to most value) P
at_most most value P h =
    elim (leb value most) as (λ t. leb value most ≡ t → IfOk (cond {A = Result ℕ TokenFault} t (Ok value) (Err Number)) P) [
      | true ↦ λ e. h (leb-true value most e)
      | false ↦ λ e. tt
    ] refl

-- a lone zero is no padding
abbrev is_padded : ℕ → List ℕ → Bool
is_padded b bs = (eqb b 48) && ltb 0 (length bs)

unpadded : (b : ℕ) (bs : List ℕ) → is_padded b bs ≡ false → b ≡ 48 → length (b ∷ bs) ≡ 1
unpadded b [] e zero_first = refl
unpadded b (c ∷ bs) e zero_first =
    let first : eqb b 48 ≡ true = rw zero_first refl in
    let more : ltb 0 (length (c ∷ bs)) ≡ true = grind (arith, nat_tests) in
    let bad : true ≡ false = ap (λ (x : Bool). x && true) (sym first) ∙ ap (λ (x : Bool). eqb b 48 && x) (sym more) ∙ e in cc

-- what is read is spelled so
pub number_found : (most : ℕ) (bytes : List ℕ) → most < 2 ^ 64 → IfOk (number_of most bytes) (λ n. (n ≤ most) × (bytes ≡ decimal n))
number_found most [] fits = tt
number_found most (b ∷ bs) fits =
    let P : ℕ → Type 0 = λ n. (n ≤ most) × (b ∷ bs ≡ decimal n) in
    let value : ℕ = digits_value 10 (b ∷ bs) in
    elim (list_all is_ascii_digit (b ∷ bs)) as (λ t. list_all is_ascii_digit (b ∷ bs) ≡ t → IfOk (cond {A = Result ℕ TokenFault} t (cond (is_padded b bs) (Err Number) (up_to most value)) (Err Shape)) P) [
      | true ↦ λ all.
          elim (is_padded b bs) as (λ t. is_padded b bs ≡ t → IfOk (cond {A = Result ℕ TokenFault} t (Err Number) (up_to most value)) P) [
            | true ↦ λ e. tt
            | false ↦ λ e. at_most most value P (λ le. (le, sym (decimal-digits_value own (b ∷ bs) all (omega arith) (unpadded b bs e) (omega arith))))
          ] refl
      | false ↦ λ e. tt
    ] refl

-- a spelled number has no padding
plain : (n b : ℕ) (bs : List ℕ) → n < 2 ^ 64 → b ∷ bs ≡ decimal n → is_padded b bs ≡ false
plain n b bs small e =
    elim (cases_lt 0 n) [
      | inl pos ↦
          let first : 48 < get_or (decimal n) 0 0 = first_decimal n pos small in
          let same : b ≡ get_or (decimal n) 0 0 = ap (λ (l : List ℕ). get_or l 0 0) e in
          ap (λ (x : Bool). x && ltb 0 (length bs)) (ne_eqb b 48 (λ q. omega arith))
      | inr none ↦
          let zero_is : n ≡ 0 = omega arith in
          let one : b ∷ bs ≡ 48 ∷ [] = e ∙ ap decimal zero_is ∙ decimal_digit 0 (omega arith) in
          let rest : bs ≡ [] = cc in
          ap (λ (l : List ℕ). eqb b 48 && ltb 0 (length l)) rest ∙ and-false (eqb b 48)
    ]

-- what is spelled so is read
pub number_only : (most n : ℕ) (bytes : List ℕ) → n ≤ most → most < 2 ^ 64 → bytes ≡ decimal n → number_of most bytes ≡ Ok n
number_only most n [] le fits e = absurd (let some = decimal_nonempty n (omega arith) in let gone : length {A = ℕ} [] ≡ length (decimal n) = ap length e in omega arith)
number_only most n (b ∷ bs) le fits e =
    let small : n < 2 ^ 64 = omega arith in
    let all : list_all is_ascii_digit (b ∷ bs) ≡ true = subst are_digits (sym e) (digits_decimal own n small) in
    let value : digits_value 10 (b ∷ bs) ≡ n = ap (digits_value 10) e ∙ digits_value-decimal own n small in
    ap (λ t. cond {A = Result ℕ TokenFault} t (cond (is_padded b bs) (Err Number) (up_to most (digits_value 10 (b ∷ bs)))) (Err Shape)) all
    ∙ ap (λ t. cond {A = Result ℕ TokenFault} t (Err Number) (up_to most (digits_value 10 (b ∷ bs)))) (plain n b bs small e)
    ∙ ap (up_to most) value
    ∙ ap (λ t. cond {A = Result ℕ TokenFault} t (Ok n) (Err Number)) (le-leb n most le)
