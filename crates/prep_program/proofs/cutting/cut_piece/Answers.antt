use Rattle.std.proofs.Common.{◌∙◌, List, [], ℕ, ap, subst}
use Rattle.audit_model.specs.Sink.{followed_by}
use Rattle.prep_cut.specs.Cutting.{GoesOn}
use Rattle.prep_program.proofs.CutFiles.{cut_more}
use Rattle.prep_program.proofs.cutting.cut_piece.Goals as goal

pub returns-clause-ok : goal.returns-clause-ok
returns-clause-ok g c = λ plan proposals earlier text before s.
    cut_more c.args.cutter.now c.feed.new.self plan proposals earlier text c.args.piece.now c.feed.new.out.items before (g.M.Sink.taken c.args.made.now) (g.M.Sink.taken c.append_all.new.maker) s
    (subst (λ (o : List ℕ). GoesOn c.feed.new.self plan proposals earlier text s.current c.args.piece.now [] o c.feed.new.out.items) c.clear.ensures.items (c.in_default.ensures.ok plan proposals earlier text s.current s.cutting))
    (c.in_ok-append_all.ensures.ok ∙ ap (λ (o : List ℕ). followed_by (g.M.Sink.taken c.args.made.now) o) c.deref.ensures.value)
