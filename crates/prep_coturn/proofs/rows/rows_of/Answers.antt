use Rattle.std.proofs.Common.{◌+◌, ◌++◌, map, List, [], sym, ap, ◌∙◌, append_assoc, arith}
use Rattle.prep_coturn.specs.Rows.{Setting, line_of, now_of, lines_in, settings_from, with_more}
use Rattle.prep_coturn.proofs.Settings.{cut_off, last_line}
use Rattle.prep_coturn.proofs.rows.rows_of.Goals as goal

pub lines-preserved : goal.lines-preserved
lines-preserved c =
    let before : List Setting = map now_of c.lines.rows.items in
    let after : List Setting = settings_from (c.lines.line + 1) (lines_in c.in-Some.others.now) in (
      ap (λ (l : List Setting). l ++ after) c.in_ok-push_row.ensures ∙ append_assoc before (with_more (line_of c.lines.line c.in-Some.one.now) []) after
          ∙ ap (λ (l : List Setting). before ++ l) (sym (cut_off c.lines.line c.lines.rest.now c.in-Some.one.now c.in-Some.others.now (sym c.in-Some.ensures.parts)))
          ∙ c.lines.invariant.0,
      omega (arith, c.in-Some.ensures.shorter, c.lines.invariant.1),
    )

pub returns : goal.returns
returns c =
    let before : List Setting = map now_of c.lines.rows.items in
    c.in_ok-push_row-2.ensures
    ∙ ap (λ (l : List Setting). before ++ l) (sym (last_line c.lines.line c.lines.rest.now (sym c.in_default.ensures.parts)))
    ∙ c.lines.invariant.0
