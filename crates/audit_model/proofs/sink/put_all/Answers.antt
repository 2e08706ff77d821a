use Rattle.std.proofs.Common.{◌≡◌, ◌-◌, ℕ, List, Option, take, drop, length, ap, sym, ◌∙◌, arith, length-drop}
use Rattle.std.proofs.lemmas.List.{take_all}
use Rattle.std.proofs.lemmas.Result.{err_from_is_err_and}
use Rattle.std.proofs.Math.Seq.{take-add}
use Rattle.audit_model.specs.Sink.{followed_by}
use Rattle.audit_model.proofs.Sinks.{follows_both, calm_more, nothing_more, raised_more}
use Rattle.audit_model.proofs.sink.put_all.Goals as goal

pub returns-in_err-taken-clause-failed : goal.returns-in_err-taken-clause-failed
returns-in_err-taken-clause-failed g c =
    let p = err_from_is_err_and c.from_residual.result c.from_residual.ensures.1 in
    rw p.1 (raised_more _ _ _ c.loop-done.invariant.kept c.in_err-taken.ensures.counted)

pub returns-then-taken-eq0-clause-failed : goal.returns-then-taken-eq0-clause-failed
returns-then-taken-eq0-clause-failed g c = nothing_more _ _ _ _ _ c.if-taken-eq0.true (omega (arith, length-drop c.loop-done.done c.args.bytes.now, c.loop-done-test.true)) c.loop-done.invariant.kept c.in_ok-taken.ensures.counted

pub loop-done-preserved : goal.loop-done-preserved
loop-done-preserved g c =
    let done = c.loop-done.done in
    let taken = c.in_ok-taken.taken in
    let bytes = c.args.bytes.now in
    let rest = drop done bytes in
    let before = g.W.Sink.taken c.args.sink.now in
    let whole : take (length bytes - done) rest ≡ rest = take_all (length bytes - done) rest (omega (arith, length-drop done bytes)) in
    record {
      within = omega (arith, c.in_ok-taken.ensures.within, length-drop done bytes);
      taken =
          c.in_ok-taken.ensures.took
          ∙ ap (λ (l : List ℕ). followed_by (g.W.Sink.taken c.loop-done.sink) (take taken l)) whole
          ∙ ap (λ (o : Option (List ℕ)). followed_by o (take taken rest)) c.loop-done.invariant.taken
          ∙ follows_both before (take done bytes) (take taken rest)
          ∙ ap (followed_by before) (sym (take-add done taken bytes));
      kept = calm_more _ _ _ c.in_ok-taken.taken _ (omega (arith, c.if-taken-eq0.false)) c.loop-done.invariant.kept c.in_ok-taken.ensures.counted;
    }
