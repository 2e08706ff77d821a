-- Decimal numbers, filled up with zeros.
use Rattle.std.proofs.Common.{◌≡◌, ℕ, zero, suc, ◌+◌, ◌-◌, ◌/◌, ◌%◌, ◌^◌, ◌<◌, ◌≤◌, List, [], ◌∷◌, ◌++◌, length, refl, sym, ◌∙◌, ap, add-one, arith, append_assoc}
use Rattle.std.specs.Prelude.{replicate}
use Rattle.std.specs.Fmt.{decimal, format_spec, styled_decimal, padded_integral, char_count}
use Rattle.std.proofs.lemmas.Fmt.{decimal_by_steps}
use Rattle.std.proofs.lemmas.List.{length-append, replicate_more, append-nil}
use Rattle.watch_ring.specs.Names.{digits}
use Rattle.watch_ring.proofs.Numerals.{front_fits}

zeros : (width : ℕ) → digits width 0 ≡ replicate width 48
unfolding digits
zeros zero = refl
zeros (suc width) = ap (λ (l : List ℕ). l ++ 48 ∷ []) (zeros width) ∙ replicate_more width 48 ∙ ap (λ (k : ℕ). replicate k 48) (add-one width)

-- what fills the text up to the width and the text are the number's digits
abbrev IsFilled : ℕ → List ℕ → Type 0
IsFilled n text = (width : ℕ) → 0 < width → n < 10 ^ width → replicate (width - length text) 48 ++ text ≡ digits width n

one_digit : (n : ℕ) → n < 10 → IsFilled n ((48 + n) ∷ [])
unfolding digits
one_digit n small zero some fits = absurd (omega arith)
one_digit n small (suc width) some fits =
    let none : 0 ≡ n / 10 = omega arith in
    let last : 48 + n ≡ 48 + n % 10 = omega arith in
    let room : suc width - 1 ≡ width = omega arith in
    ap (λ (k : ℕ). replicate k 48 ++ (48 + n) ∷ []) room ∙ ap (λ (l : List ℕ). l ++ (48 + n) ∷ []) (sym (zeros width) ∙ ap (digits width) none)
    ∙ ap (λ (b : ℕ). digits width (n / 10) ++ b ∷ []) last

-- a number above 0 has a digit
digits_there : (width n : ℕ) → 0 < n → n < 10 ^ width → 0 < width
digits_there zero n some fits = absurd (omega arith)
digits_there (suc width) n some fits = omega arith

more_digits : (n : ℕ) (ds : List ℕ) → 10 ≤ n → IsFilled (n / 10) ds → IsFilled n (ds ++ ((48 + n % 10) ∷ []))
unfolding digits
more_digits n ds large front zero some fits = absurd (omega arith)
more_digits n ds large front (suc width) some fits =
    let last : List ℕ = (48 + n % 10) ∷ [] in
    let room : suc width - length (ds ++ last) ≡ width - length ds = omega (arith, length-append ds last) in
    let high : n / 10 < 10 ^ width = front_fits width n fits in
    ap (λ (k : ℕ). replicate k 48 ++ (ds ++ last)) room ∙ sym (append_assoc (replicate (width - length ds) 48) ds last)
    ∙ ap (λ (l : List ℕ). l ++ last) (front width (digits_there width (n / 10) (omega arith) high) high)

pub filled : (width n : ℕ) → 0 < width → n < 10 ^ width → n < 2 ^ 64 → replicate (width - length (decimal n)) 48 ++ decimal n ≡ digits width n
filled width n some fits small = decimal_by_steps IsFilled one_digit more_digits n small width some fits

pub number_text : (n : ℕ) → n < 10 ^ 5 → styled_decimal (format_spec 32 0 4 5 18446744073709551615) n ≡ digits 5 n
unfolding padded_integral char_count
number_text n small =
    let room : 5 - length (decimal n) - 0 - 0 ≡ 5 - length (decimal n) = omega arith in
    ap (λ (k : ℕ). replicate k 48 ++ (decimal n ++ [])) room ∙ ap (λ (l : List ℕ). replicate (5 - length (decimal n)) 48 ++ l) (append-nil (decimal n))
    ∙ filled 5 n (omega arith) small (omega arith)

pub second_text : (n : ℕ) → n < 10 ^ 14 → styled_decimal (format_spec 32 0 4 14 18446744073709551615) n ≡ digits 14 n
unfolding padded_integral char_count
second_text n small =
    let room : 14 - length (decimal n) - 0 - 0 ≡ 14 - length (decimal n) = omega arith in
    ap (λ (k : ℕ). replicate k 48 ++ (decimal n ++ [])) room ∙ ap (λ (l : List ℕ). replicate (14 - length (decimal n)) 48 ++ l) (append-nil (decimal n))
    ∙ filled 14 n (omega arith) small (omega arith)
