use Rattle.std.proofs.Common.{ap, inl, subst, sym, ◌∙◌}
use Rattle.audit_files.proofs.Refusing.{err_then}
use Rattle.audit_program.specs.Watched.{EndsTurns}
use Rattle.audit_files.specs.Judged.{status_of}
use Rattle.audit_keys.specs.KeyFor.{key_for}
use Rattle.audit_model.specs.Sink.{followed_by}
use Rattle.audit_report.specs.ReportText.{report_text}
use Rattle.audit_sightings.specs.declared.intake.Intake.{Intake}
use Rattle.audit_sightings.specs.Intake.{taken}
use Rattle.audit_program.proofs.live.Watch.write_report.Goals as goal

pub returns-in-Conforming-clause-reported : goal.returns-in-Conforming-clause-reported
returns-in-Conforming-clause-reported g c = λ policy users count bytes_read reads turns follows has_ended. record {
  intake = c.args.self.now.live.intake;
  key_for = key_for c.args.self.now.live.credentials;
  verdict = c.in_ok-verdict.verdict;
  policy' = follows.policy';
  users' = follows.users';
  captures' = follows.count';
  is = c.in_ok-verdict.ensures.reported policy users count bytes_read reads turns follows has_ended;
  headline = c.in_ok-verdict.ensures.headline;
  written = c.in_ok-report.ensures.ok ∙ ap (λ (i : Intake). followed_by (g.O.Sink.taken c.args.out.now) (report_text c.in_ok-verdict.verdict (taken i))) c.intake.ensures;
  reported = sym (ap status_of c.in-Conforming.is);
}

pub returns-in-NotShown-clause-reported : goal.returns-in-NotShown-clause-reported
returns-in-NotShown-clause-reported g c = λ policy users count bytes_read reads turns follows has_ended. record {
  intake = c.args.self.now.live.intake;
  key_for = key_for c.args.self.now.live.credentials;
  verdict = c.in_ok-verdict.verdict;
  policy' = follows.policy';
  users' = follows.users';
  captures' = follows.count';
  is = c.in_ok-verdict.ensures.reported policy users count bytes_read reads turns follows has_ended;
  headline = c.in_ok-verdict.ensures.headline;
  written = c.in_ok-report.ensures.ok ∙ ap (λ (i : Intake). followed_by (g.O.Sink.taken c.args.out.now) (report_text c.in_ok-verdict.verdict (taken i))) c.intake.ensures;
  reported = sym (ap status_of c.in-NotShown.is);
}

pub returns-in_err-verdict-clause-refused : goal.returns-in_err-verdict-clause-refused
returns-in_err-verdict-clause-refused g c = λ policy users count bytes_read follows.
    let ends = c.in_err-verdict.ensures.refused policy users count bytes_read follows in
    err_then c.from_residual.result c.from_residual.ensures.1 (λ stop is. inl (subst (λ s. EndsTurns count bytes_read c.args.self.now.live.intake.policy s) (sym is) ends))
