use Rattle.std.proofs.Common.{inl, inr, subst, sym}
use Rattle.audit_files.proofs.Refusing.{err_then}
use Rattle.audit_files.specs.Ends.{EndsFiles, EndsWriting}
use Rattle.audit_keys.specs.KeyFor.{key_for}
use Rattle.audit_sightings.specs.Intake.{taken}
use Rattle.audit_program.proofs.running.audit_captures.Goals as goal

pub returns-clause-audited : goal.returns-clause-audited
returns-clause-audited g c = λ policy_text users_text texts policy users none captures.
    let files = c.in_ok-files.files in
    let read = c.in_ok-files.ensures.read policy_text users_text texts policy users none captures in
    let found = c.in_ok-found.found in
    let judges = c.in_ok-found.ensures.judged in
    let told = c.in_ok-status.ensures.told in (
      found.certificate,
      record {
        taken = taken files.intake;
        key_for = key_for files.users;
        read = read;
        judged = record {
          verdict = found.verdict;
          is = judges.is;
          written = told.0;
          told = told.1;
          conforming = judges.conforming;
          headline = judges.headline;
        };
      },
    )

pub returns-in_err-files-clause-ended : goal.returns-in_err-files-clause-ended
returns-in_err-files-clause-ended g c = λ policy_text users_text texts policy users none captures.
    let ends = c.in_err-files.ensures.refused policy_text users_text texts policy users none captures in
    err_then c.from_residual.result c.from_residual.ensures.1 (λ stop is. inl (subst (λ s. EndsFiles (g.S.Source.may_fail c.args.source.now) c.args.policy.now policy_text c.args.users users_text c.args.captures.now texts s) (sym is) ends))

pub returns-in_err-found-clause-ended : goal.returns-in_err-found-clause-ended
returns-in_err-found-clause-ended g c = λ policy_text users_text texts policy users none captures. err_then c.from_residual-in_err-found.result c.from_residual-in_err-found.ensures.1 (λ stop memory. inr (inl memory))

pub returns-in_err-status-clause-ended : goal.returns-in_err-status-clause-ended
returns-in_err-status-clause-ended g c = λ policy_text users_text texts policy users none captures.
    err_then c.from_residual-in_err-status.result c.from_residual-in_err-status.ensures.1 (λ stop is. inr (subst (λ s. EndsWriting (g.O.Sink.failures c.args.out.now) (g.O.Sink.failures c.write_verdict.new.out) s) (sym is) c.in_err-status.ensures.unwritten))
