use Rattle.std.proofs.Common.{sym, subst}
use Rattle.audit_keys.specs.KeyFor.{key_for}
use Rattle.audit_model.specs.declared.certificate.Certificate.{Certificate}
use Rattle.audit_sightings.specs.Files.{StandsFor}
use Rattle.audit_sightings.specs.Intake.{taken}
use Rattle.audit_verdict.specs.Verdicts.{IsVerdict}
use Rattle.audit_live.specs.Audit.{Audit}
use Rattle.audit_live.proofs.live.Live.finish.Goals as goal

pub returns-in-Err-clause-ends : goal.returns-in-Err-clause-ends
returns-in-Err-clause-ends c = λ going files stands. c.in-Err.ensures.ends files (subst (λ (a : Audit). StandsFor a.intake files) (sym c.self.view_is) stands)

pub returns-in-Ok-clause-ends : goal.returns-in-Ok-clause-ends
returns-in-Ok-clause-ends c = λ going files stands. c.in_default.ensures.ends files (subst (λ (a : Audit). StandsFor a.intake files) (sym c.self.view_is) stands)

pub returns-in-Ok-clause-verdict : goal.returns-in-Ok-clause-verdict
returns-in-Ok-clause-verdict c = λ going.
    subst (λ (a : Audit). IsVerdict (taken a.intake) (key_for a.credentials) a.front.placing.certificate c.in-Ok.verdict) c.self.view_is
    (subst (λ (certificate : Certificate). IsVerdict (taken c.self.inside.intake) (key_for c.self.inside.credentials) certificate c.in-Ok.verdict) c.certificate-certificate.ensures c.in-Ok.ensures.verdict)

pub returns-in-Err-check-clause-ends : goal.returns-in-Err-check-clause-ends
returns-in-Err-check-clause-ends c = λ going files stands. c.in_default.ensures.ends files (subst (λ (a : Audit). StandsFor a.intake files) (sym c.self.view_is) stands)
