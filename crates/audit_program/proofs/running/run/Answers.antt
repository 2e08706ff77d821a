use Rattle.std.proofs.Common.{◌≡◌, ◌∙◌, OnOk, ap, inl, refl, subst, sym}
use Rattle.audit_program.specs.Answered.{status_of_answer}
use Rattle.audit_program.proofs.running.run.Goals as goal

pub returns-in-Ok-run_request : goal.returns-in-Ok-run_request
returns-in-Ok-run_request g c =
    let said = g.E.Sink.taken c.run_request.new.err in
    inl (
      c.in-Ok.request,
      c.in-Ok.ensures,
      c.run_request.result,
      said,
      g.E.Sink.failures c.run_request.new.err,
      c.run_request.ensures,
      sym (ap status_of_answer c.in-Ok-run_request.is),
      subst (λ done. OnOk done (said ≡ said)) (sym c.in-Ok-run_request.is) refl,
    )

pub returns : goal.returns
returns g c =
    let said = g.E.Sink.taken c.run_request.new.err in
    inl (
      c.in-Ok.request,
      c.in-Ok.ensures,
      c.run_request.result,
      said,
      g.E.Sink.failures c.run_request.new.err,
      c.run_request.ensures,
      c.status-in-Err-run_request.ensures ∙ sym (ap status_of_answer c.in-Err-run_request.is),
      subst (λ done. OnOk done (g.E.Sink.taken c.put_line-in-Err-run_request.new.sink ≡ said)) (sym c.in-Err-run_request.is) tt,
    )
