use Rattle.std.proofs.Common.{◌≡◌, ◌++◌, ◌∷◌, ◌/◌, ◌%◌, ℕ, List, decimal, string_bytes, rules, ap, ◌∙◌}
use Rattle.std.specs.Result.{IfOk}
use Rattle.std.specs.Fmt.{styled_decimal}
use Rattle.std.proofs.lemmas.Result.{IfOk-weaker}
use Rattle.watch_report.proofs.Padding.{padded}
use Rattle.watch_report.proofs.families.text_of_seconds.Goals as goal

pub returns : goal.returns
returns c =
    let whole = decimal (c.args.nanoseconds / 1000000000) in
    let rest = c.args.nanoseconds % 1000000000 in
    let written : IfOk c.format.result (λ text. string_bytes text ≡ whole ++ (46 ∷ styled_decimal c.laid_out.result rest)) = search rules in
    IfOk-weaker c.format.result _ _ (λ text same. same ∙ ap (λ s. whole ++ (46 ∷ styled_decimal s rest)) c.laid_out.ensures ∙ ap (λ (l : List ℕ). whole ++ (46 ∷ l)) (padded rest)) written
