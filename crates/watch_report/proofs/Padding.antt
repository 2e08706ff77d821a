-- Nine digits.
use Rattle.std.proofs.Common.{◌≡◌, ℕ, ◌-◌, ◌++◌, List, [], length, ap, ◌∙◌, arith}
use Rattle.std.specs.Prelude.{replicate}
use Rattle.std.specs.Fmt.{decimal, format_spec, styled_decimal, padded_integral, char_count}
use Rattle.std.proofs.lemmas.List.{append-nil}
use Rattle.watch_report.specs.Exposition.{nine_digits}

pub padded : (n : ℕ) → styled_decimal (format_spec 32 0 4 9 18446744073709551615) n ≡ nine_digits (decimal n)
unfolding padded_integral char_count
padded n =
    let room : 9 - length (decimal n) - 0 - 0 ≡ 9 - length (decimal n) = omega arith in
    ap (λ (k : ℕ). replicate k 48 ++ (decimal n ++ [])) room ∙ ap (λ (l : List ℕ). replicate (9 - length (decimal n)) 48 ++ l) (append-nil (decimal n))
