-- All lanes of a certificate, each judged alone.
use Rattle.audit_lane.specs.Concluded.{InOrder}
use Rattle.audit_model.specs.declared.certificate.Certificate.{Certificate}
use Rattle.audit_rules.specs.Keys.{KeyFor}
use Rattle.audit_sightings.specs.Intake.{Taken}
use Rattle.audit_verdict.specs.Verdicts.{IsJobOf}
use Rattle.explain_story.specs.declared.case.Lanes.{Lanes}

-- the job is the certificate's, and the findings are the judgements of its lanes, in order
pub record AreLanesOf (taken : Taken) (key_for : KeyFor) (certificate : Certificate) (lanes : Lanes) : Type 0 where
  pub job : IsJobOf taken key_for certificate lanes.job
  pub judged : InOrder lanes.job lanes.findings.items
