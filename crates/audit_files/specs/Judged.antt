-- The result of a run, from the bytes of its files to its report.
use Rattle.std.specs.Prelude.{◌≡◌, ◌↔◌, ℕ, List, Option, Ok}
use Rattle.audit_model.specs.declared.certificate.Certificate.{Certificate}
use Rattle.audit_model.specs.declared.verdict.Verdict.{Verdict}
use Rattle.audit_model.specs.declared.verdict.Verdict.TheVariants.{Conforming, NotShown}
use Rattle.audit_model.specs.PolicyText.{policy_of}
use Rattle.audit_model.specs.Sink.{followed_by}
use Rattle.audit_keys.specs.CredLine.{LongTermCredential}
use Rattle.audit_keys.specs.CredText.{credentials_of}
use Rattle.audit_keys.specs.Keys.{Knows}
use Rattle.audit_report.specs.ReportText.{report_text}
use Rattle.audit_rules.specs.Keys.{KeyFor}
use Rattle.audit_sightings.specs.Intake.{Taken}
use Rattle.audit_verdict.specs.Verdicts.{IsConforming, IsVerdict}
use Rattle.audit_whole.specs.CaptureRun.{rules_for}
use Rattle.audit_whole.specs.Conforms.{Conforms}
use Rattle.audit_whole.specs.Headline.{Headline}
use Rattle.audit_files.specs.Captures.{AreTakenIn}

abbrev pub status_of : Verdict → ℕ
status_of (Conforming datagrams lanes) = 0
status_of (NotShown breach) = 1

-- It is the certificate's verdict. It conforms exactly if the certificate explains the sightings by
-- one run of the server, and then the headline holds.
pub record Judges (taken : Taken) (key_for : KeyFor) (certificate : Certificate) (verdict : Verdict) : Type 0 where
  pub is : IsVerdict taken key_for certificate verdict
  pub conforming : IsConforming verdict ↔ Conforms taken (rules_for taken key_for) certificate
  pub headline : IsConforming verdict → Headline taken key_for certificate

-- the report of the verdict was written, which the status repeats
abbrev pub IsTold : Taken → Verdict → Option (List ℕ) → Option (List ℕ) → ℕ → Type 0
IsTold taken verdict before after status = (after ≡ followed_by before (report_text verdict taken)) × (status ≡ status_of verdict)

-- The report of the certificate's verdict was written, which the status repeats. It conforms
-- exactly if the certificate explains the sightings by one run of the server, and then the headline
-- holds.
pub record IsJudged (taken : Taken) (key_for : KeyFor) (certificate : Certificate) (before after : Option (List ℕ)) (status : ℕ) : Type 0 where
  pub verdict : Verdict
  pub is : IsVerdict taken key_for certificate verdict
  pub written : after ≡ followed_by before (report_text verdict taken)
  pub told : status ≡ status_of verdict
  pub conforming : IsConforming verdict ↔ Conforms taken (rules_for taken key_for) certificate
  pub headline : IsConforming verdict → Headline taken key_for certificate

-- the keys of the users that a text of credentials has, and of no others
pub record AreUsers (text : List ℕ) (key_for : KeyFor) : Type 0 where
  pub listed : List LongTermCredential
  pub read : credentials_of text ≡ Ok listed
  pub keys : Knows key_for listed

-- the policy of a text, the users of another, and the sightings of the captures' bytes
pub record AreRead (policy users : List ℕ) (captures : List (List ℕ)) (taken : Taken) (key_for : KeyFor) : Type 0 where
  pub policy' : policy_of policy ≡ Ok taken.policy
  pub users' : AreUsers users key_for
  pub captures' : AreTakenIn captures taken

-- the verdict by the certificate on these files' bytes
pub record IsAudited (policy users : List ℕ) (captures : List (List ℕ)) (certificate : Certificate) (before after : Option (List ℕ)) (status : ℕ) : Type 0 where
  pub taken : Taken
  pub key_for : KeyFor
  pub read : AreRead policy users captures taken key_for
  pub judged : IsJudged taken key_for certificate before after status
