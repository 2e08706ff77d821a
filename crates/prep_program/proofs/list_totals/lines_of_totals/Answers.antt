use Rattle.std.proofs.Common.{◌≡◌, ◌++◌, ◌+◌, ◌∙◌, ℕ, List, ap, string_bytes}
use Rattle.prep_causes.specs.Groups.{capped}
use Rattle.prep_program.specs.ListText.{sums_text, excluded_of, excluded_text, kept_text}
use Rattle.prep_program.proofs.Texts.{with_more}
use Rattle.prep_program.proofs.list_totals.lines_of_totals.Goals as goal

pub returns : goal.returns
returns c =
    let sums = c.args.sums.now in
    let all : c.saturating_add-all.result ≡ capped (excluded_of sums + c.args.kept) = c.saturating_add-all.ensures ∙ ap (λ (n : ℕ). capped (n + c.args.kept)) c.excluded_in.ensures in
    let first : string_bytes c.in_ok-lines.lines ≡ sums_text sums = c.in_ok-lines.ensures in
    let second : string_bytes c.in_ok-line_of_excluded.field-0 ≡ excluded_text sums c.saturating_add-all.result c.args.departures.now = c.in_ok-line_of_excluded.ensures in
    let third : string_bytes c.in_ok-lines_of_kept.field-0 ≡ kept_text c.args.notes.now c.args.kept = c.in_ok-lines_of_kept.ensures in
    with_more _ _ _ (sums_text sums ++ excluded_text sums (capped (excluded_of sums + c.args.kept)) c.args.departures.now) (kept_text c.args.notes.now c.args.kept) c.in_ok-push_str-2.ensures.bytes
    (with_more _ _ _ (sums_text sums) (excluded_text sums (capped (excluded_of sums + c.args.kept)) c.args.departures.now) c.in_ok-push_str.ensures.bytes first
    (c.as_str.ensures.value ∙ second ∙ ap (λ (n : ℕ). excluded_text sums n c.args.departures.now) all))
    (c.as_str-2.ensures.value ∙ third)
