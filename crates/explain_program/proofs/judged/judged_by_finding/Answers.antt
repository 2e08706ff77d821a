use Rattle.explain_program.proofs.judged.judged_by_finding.Goals as goal

pub returns-clause-read : goal.returns-clause-read
returns-clause-read g c = λ policy_text users_text texts policy users none captures.
    c.in_ok-files.ensures.read policy_text users_text texts policy users none captures
