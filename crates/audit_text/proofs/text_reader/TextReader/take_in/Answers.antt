use Rattle.std.proofs.lemmas.Result.{err_from_is_err_and, on_ok_weaker}
use Rattle.std.proofs.Common.{refl, sym, ◌∙◌}
use Rattle.audit_text.proofs.Broken.{cut_is, uncut_unbroken}
use Rattle.audit_text.proofs.Standing.{line_taken, line_refused, rest_held}
use Rattle.audit_text.specs.Reading.{within}
use Rattle.audit_text.proofs.text_reader.TextReader.take_in.Goals as goal

pub end_line-requires : goal.end_line-requires
end_line-requires g c = (cut_is c.lines.rest.now c.in-Some.line.now c.in-Some.behind.now (sym c.in-Some.ensures.parts)).unbroken

pub hold-requires : goal.hold-requires
hold-requires g c = uncut_unbroken c.lines.rest.now (sym c.in_default.ensures.parts)

pub lines-init : goal.lines-init
lines-init g c = record { same = λ before stands. (before, stands, refl); unbroken = rw (← c.self.view_is) c.self.invariant }

pub lines-preserved : goal.lines-preserved
lines-preserved g c =
    let done = c.in_ok-end_line.ensures in
    let cut = cut_is c.lines.rest.now c.in-Some.line.now c.in-Some.behind.now (sym c.in-Some.ensures.parts) in
    record {
      same = λ before stands.
          let now = c.lines.invariant.same before stands in
          let next = line_taken g.L.Lines.says (within g.L.Lines.overlong g.L.Lines.after) c.lines.self c.end_line.new.self now.0 c.lines.rest.now c.in-Some.line.now c.in-Some.behind.now
          now.1 c.lines.invariant.unbroken cut (done.ok now.0.said now.1.said) done.next done.held in
          (next.0, next.1, next.2 ∙ now.2);
      unbroken = rw done.held refl;
    }

pub returns-in_err-end_line-clause-err : goal.returns-in_err-end_line-clause-err
returns-in_err-end_line-clause-err g c before stands =
    let p = err_from_is_err_and c.from_residual.result c.from_residual.ensures.1 in
    let now = c.lines.invariant.same before stands in
    let cut = cut_is c.lines.rest.now c.in-Some.line.now c.in-Some.behind.now (sym c.in-Some.ensures.parts) in
    rw (p.1, p.2) (λ not_memory. sym now.2
    ∙ line_refused g.L.Lines.says (within g.L.Lines.overlong g.L.Lines.after) g.L.Lines.is_memory c.lines.self now.0 c.in_err-end_line.field-0.0 c.lines.rest.now c.in-Some.line.now c.in-Some.behind.now
    now.1 c.lines.invariant.unbroken cut (c.in_err-end_line.ensures.err now.0.said now.1.said) not_memory)

pub returns-clause-ok : goal.returns-clause-ok
returns-clause-ok g c before stands =
    let now = c.lines.invariant.same before stands in
    on_ok_weaker c.hold.result
    (λ held.
    let next = rest_held g.L.Lines.says (within g.L.Lines.overlong g.L.Lines.after) c.lines.self c.hold.new.self now.0 c.lines.rest.now now.1 c.lines.invariant.unbroken (sym c.in_default.ensures.parts)
    c.hold.ensures.lines c.hold.ensures.line held in
    (next.0, sym now.2 ∙ next.1, next.2))
    c.hold.ensures.ok
