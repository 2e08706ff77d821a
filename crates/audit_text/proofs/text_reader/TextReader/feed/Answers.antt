use Rattle.std.proofs.lemmas.Result.{err_from_is_err_and}
use Rattle.std.proofs.Common.{◌≡◌, ◌++◌, length, arith, ap, sym, ◌∙◌}
use Rattle.audit_text.specs.Lines.{has_lf}
use Rattle.audit_text.specs.Reading.{SoFar, within}
use Rattle.audit_text.proofs.Standing.{stands_with, piece_refused, held_overlong}
use Rattle.audit_text.proofs.text_reader.TextReader.feed.Goals as goal

pub returns-in_err-take_in-clause-err : goal.returns-in_err-take_in-clause-err
returns-in_err-take_in-clause-err g c start text stands more =
    let p = err_from_is_err_and c.from_residual.result c.from_residual.ensures.1 in
    rw (p.1, p.2) (piece_refused g.L.Lines.says g.L.Lines.overlong g.L.Lines.after g.L.Lines.unended g.L.Lines.lacks (λ f. g.L.Lines.is_memory f.kind) start c.args.self text c.args.piece.now
    more c.in_err-take_in.field-0.0 stands (c.in_err-take_in.ensures.err stands.0 stands.2))

pub returns-clause-ok : goal.returns-clause-ok
returns-clause-ok g c start text stands =
    stands_with g.L.Lines.says (within g.L.Lines.overlong g.L.Lines.after) start c.args.self c.take_in.new.self text c.args.piece.now stands (c.in_ok-take_in.ensures.ok stands.0 stands.2)

pub returns-then-len-gt-LONGEST_LINE-clause-err : goal.returns-then-len-gt-LONGEST_LINE-clause-err
returns-then-len-gt-LONGEST_LINE-clause-err g c start text stands more not_memory =
    let now = c.take_in.new.self in
    let stood = stands_with g.L.Lines.says (within g.L.Lines.overlong g.L.Lines.after) start c.args.self now text c.args.piece.now stands (c.in_ok-take_in.ensures.ok stands.0 stands.2) in
    let held : c.self.inside.held.items ≡ now.rest = ap (λ (s : SoFar _). s.rest) c.self.view_is in
    held_overlong g.L.Lines.says g.L.Lines.overlong g.L.Lines.after g.L.Lines.unended g.L.Lines.lacks start now (text ++ c.args.piece.now) more c.cut_off.result stood
    (ap has_lf (sym held) ∙ c.self.invariant) (omega (arith, ap length held)) (c.cut_off.ensures stood.0.said stood.2.said)
