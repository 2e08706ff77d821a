use Rattle.std.proofs.Common.{◌≡◌, ◌++◌, ◌∙◌, ℕ, List, ap, string_bytes}
use Rattle.prep_cut.specs.declared.reason.Reason.{Reason}
use Rattle.prep_cut.specs.declared.tally.Tally.{Tally}
use Rattle.prep_cut.specs.declared.tally.Totals.{Totals}
use Rattle.prep_program.specs.declared.list_totals.Departures.{Departures}
use Rattle.prep_program.specs.declared.list_totals.Sums.{Sums}
use Rattle.prep_program.specs.ListText.{head_text, lines_text, captures_text, totals_text, sums_of, kept_of, departures_of}
use Rattle.prep_program.proofs.Texts.{with_more}
use Rattle.prep_program.proofs.list.list_of.Goals as goal

pub returns : goal.returns
returns c =
    let plan = c.args.plan.now in
    let all = c.args.all.now in
    let notes = c.args.notes.now in
    let tallies = all.tallies.lines.items in
    let totals = all.totals.items in
    let head : string_bytes c.in_ok-list.list ≡ head_text plan.stated notes.begin = c.in_ok-list.ensures in
    let lines : string_bytes c.in_ok-lines_of.field-0 ≡ lines_text c.as_slice-lines.result.now c.as_slice-tallies.result.now = c.in_ok-lines_of.ensures in
    let captures : string_bytes c.in_ok-lines_of_captures.field-0 ≡ captures_text 0 c.deref-2.result.now = c.in_ok-lines_of_captures.ensures in
    let sums : c.add_up-sums.result ≡ sums_of tallies = c.add_up-sums.ensures ∙ ap sums_of c.as_slice-tallies.ensures in
    let kept : c.kept_in-kept.result ≡ kept_of totals = c.kept_in-kept.ensures ∙ ap kept_of c.deref.ensures.value in
    let departures : c.departures_in-departures.result ≡ departures_of plan.lines all.tallies =
    c.departures_in-departures.ensures ∙ ap (λ (l : List Reason). departures_of l all.tallies) c.as_slice-lines.ensures in
    let last : string_bytes c.in_ok-lines_of_totals.field-0 ≡ totals_text notes c.add_up-sums.result c.kept_in-kept.result c.departures_in-departures.result = c.in_ok-lines_of_totals.ensures in
    with_more _ _ _ ((head_text plan.stated notes.begin ++ lines_text plan.lines tallies) ++ captures_text 0 totals) (totals_text notes (sums_of tallies) (kept_of totals) (departures_of plan.lines all.tallies)) c.in_ok-push_str-3.ensures.bytes
    (with_more _ _ _ (head_text plan.stated notes.begin ++ lines_text plan.lines tallies) (captures_text 0 totals) c.in_ok-push_str-2.ensures.bytes
    (with_more _ _ _ (head_text plan.stated notes.begin) (lines_text plan.lines tallies) c.in_ok-push_str.ensures.bytes head
    (c.as_str.ensures.value ∙ lines ∙ ap (λ (l : List Reason). lines_text l c.as_slice-tallies.result.now) c.as_slice-lines.ensures ∙ ap (λ (t : List Tally). lines_text plan.lines t) c.as_slice-tallies.ensures))
    (c.as_str-2.ensures.value ∙ captures ∙ ap (λ (t : List Totals). captures_text 0 t) c.deref-2.ensures.value))
    (c.as_str-3.ensures.value ∙ last ∙ ap (λ (s : Sums). totals_text notes s c.kept_in-kept.result c.departures_in-departures.result) sums
    ∙ ap (λ (n : ℕ). totals_text notes (sums_of tallies) n c.departures_in-departures.result) kept ∙ ap (λ (d : Departures). totals_text notes (sums_of tallies) (kept_of totals) d) departures)
