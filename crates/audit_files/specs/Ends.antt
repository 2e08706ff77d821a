-- What ends a run before its answer: the first of its files that can't be read or is refused, in
-- the order in which they are read, or the sink of the report.
use Rattle.std.specs.Prelude.{◌≡◌, ◌⊎◌, ℕ, Bool, List, Option, Ok}
use Rattle.std.proofs.Common.{Bor}
use Rattle.audit_cert.specs.CertText.{cert_of}
use Rattle.audit_cert.specs.Spelling.{said_by}
use Rattle.audit_model.specs.declared.certificate.Certificate.{Certificate}
use Rattle.audit_model.specs.declared.policy.Policy.{Policy}
use Rattle.audit_model.specs.PolicyText.{policy_of}
use Rattle.audit_model.specs.Sink.{raised_by}
use Rattle.audit_rules.specs.Keys.{KeyFor}
use Rattle.audit_files.specs.CaptureFaults.{EndsCaptures}
use Rattle.audit_files.specs.declared.stop.Stop.{Stop}
use Rattle.audit_files.specs.declared.stop.Stop.TheVariants.{Memory, Write}
use Rattle.audit_files.specs.Judged.{AreUsers}
use Rattle.audit_files.specs.Refusals.{EndsReading, RefusesCertificate, RefusesCredentials, RefusesPolicy, may_fail_of}

-- a certificate that can't be read or is refused ends it; or it was read, and the captures do
abbrev pub EndsBoth : (List ℕ → Bool) → List ℕ → List ℕ → List (Bor (List ℕ)) → Policy → List (List ℕ) → Stop → Type 0
EndsBoth may_fail certificate_name certificate_text names policy texts stop =
    EndsReading (may_fail certificate_name) certificate_text (RefusesCertificate certificate_text) stop
    ⊎ ((written : Certificate) × (cert_of certificate_text ≡ Ok (said_by written)) × EndsCaptures may_fail names policy texts stop)

module _ (may_fail : List ℕ → Bool) (policy_name : List ℕ) (policy_text : List ℕ) (users_name : Option (Bor (List ℕ))) (users_text : List ℕ) where
  -- the policy ends it; or it was read, and the users do; or they were also read, and the next file
  -- does
  abbrev pub EndsBy : (Policy → Stop → Type 0) → Stop → Type 0
  EndsBy Then stop = EndsReading (may_fail policy_name) policy_text (RefusesPolicy policy_text) stop
      ⊎ ((policy : Policy) × (policy_of policy_text ≡ Ok policy) × (EndsReading (may_fail_of may_fail users_name) users_text (RefusesCredentials users_text) stop
      ⊎ ((key_for : KeyFor) × AreUsers users_text key_for × Then policy stop)))

  -- then come the captures
  abbrev pub EndsFiles : List (Bor (List ℕ)) → List (List ℕ) → Stop → Type 0
  EndsFiles names texts stop = EndsBy (λ policy s. EndsCaptures may_fail names policy texts s) stop

  -- or a certificate, and then the captures
  abbrev pub EndsCheck : List ℕ → List ℕ → List (Bor (List ℕ)) → List (List ℕ) → Stop → Type 0
  EndsCheck certificate_name certificate_text names texts stop = EndsBy (λ policy s. EndsBoth may_fail certificate_name certificate_text names policy texts s) stop

-- what ends the writing: exhausted memory, or a sink that failed, which it has counted
abbrev pub EndsWriting : Option ℕ → Option ℕ → Stop → Type 0
EndsWriting before after stop = (stop ≡ Memory) ⊎ ((stop ≡ Write) × (after ≡ raised_by before 1))
