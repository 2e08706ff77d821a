use Rattle.std.proofs.Common.{◌≡◌, ◌-◌, ℕ, List, Option, take, drop, length, ap, sym, ◌∙◌, arith, length-drop}
use Rattle.std.proofs.lemmas.List.{take_all}
use Rattle.std.proofs.Math.Seq.{take-add}
use Rattle.audit_model.specs.Sink.{followed_by}
use Rattle.prep_program.proofs.Captures.{followed_twice}
use Rattle.prep_program.proofs.maker.append_all.Goals as goal

pub loop-done-preserved : goal.loop-done-preserved
loop-done-preserved g c =
    let done = c.loop-done.done in
    let taken = c.in_ok-taken.taken in
    let bytes = c.args.bytes.now in
    let rest = drop done bytes in
    let before = g.M.Sink.taken c.args.maker.now in
    let whole : take (length bytes - done) rest ≡ rest = take_all (length bytes - done) rest (omega (arith, length-drop done bytes)) in
    record {
      within = omega (arith, c.in_ok-taken.ensures.within, length-drop done bytes);
      taken =
          c.in_ok-taken.ensures.took
          ∙ ap (λ (l : List ℕ). followed_by (g.M.Sink.taken c.loop-done.maker) (take taken l)) whole
          ∙ ap (λ (o : Option (List ℕ)). followed_by o (take taken rest)) c.loop-done.invariant.taken
          ∙ followed_twice before (take done bytes) (take taken rest)
          ∙ ap (followed_by before) (sym (take-add done taken bytes));
      others = c.append.ensures.others ∙ c.loop-done.invariant.others;
    }
