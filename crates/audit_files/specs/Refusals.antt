-- Why the files of a run are refused: the first fault, in the order in which they are read.
use Rattle.std.specs.Prelude.{◌≡◌, ◌⊎◌, ◌≤◌, ◌-◌, ◌^◌, ℕ, Bool, true, false, List, Option, Some, None, length}
use Rattle.std.proofs.Common.{Bor}
use Rattle.audit_text.specs.declared.line_fault.LineFault.{LineFault}
use Rattle.audit_text.specs.Reading.{UnlessMemory}
use Rattle.audit_model.specs.declared.policy_fault.PolicyFaultKind.{PolicyFaultKind}
use Rattle.audit_model.specs.PolicyFault as policy
use Rattle.audit_model.specs.PolicyText.{policy_of}
use Rattle.audit_keys.specs.declared.cred_fault.CredFaultKind.{CredFaultKind}
use Rattle.audit_keys.specs.CredFault as credentials
use Rattle.audit_keys.specs.CredText.{credentials_of}
use Rattle.audit_cert.specs.declared.fault.CertFaultKind.{CertFaultKind}
use Rattle.audit_cert.specs.CertFault as certificate
use Rattle.audit_cert.specs.CertText.{cert_of}
use Rattle.audit_files.specs.declared.stop.Stop.{Stop}
use Rattle.audit_files.specs.declared.stop.Stop.TheVariants.{Memory, Read}
use Rattle.audit_files.specs.Stops.{EndsByPolicy, EndsByCredentials, EndsByCertificate}

-- a policy text is refused for its first fault
abbrev pub RefusesPolicy : List ℕ → Stop → Type 0
RefusesPolicy text stop = (fault : LineFault PolicyFaultKind) × EndsByPolicy fault stop × UnlessMemory (λ f. policy.is_memory f.kind) fault (policy_of text)

-- so is a text of credentials
abbrev pub RefusesCredentials : List ℕ → Stop → Type 0
RefusesCredentials text stop = (fault : LineFault CredFaultKind) × EndsByCredentials fault stop × UnlessMemory (λ f. credentials.is_memory f.kind) fault (credentials_of text)

-- and a certificate
abbrev pub RefusesCertificate : List ℕ → Stop → Type 0
RefusesCertificate text stop = (fault : LineFault CertFaultKind) × EndsByCertificate fault stop × UnlessMemory (λ f. certificate.is_memory f.kind) fault (cert_of text)

-- whether reading a file may fail, if one is named
abbrev pub may_fail_of : (List ℕ → Bool) → Option (Bor (List ℕ)) → Bool
may_fail_of may_fail None = false
may_fail_of may_fail (Some name) = may_fail name.now

-- a file that can't be read to its end: its source may fail, or it has more bytes than can be
-- counted
abbrev pub IsUnread : Bool → List ℕ → Stop → Type 0
IsUnread may_fail bytes stop = (stop ≡ Read) × ((may_fail ≡ true) ⊎ (2 ^ 64 - 1 ≤ length bytes))

-- what ends the reading of a file of these bytes: exhausted memory, a file that can't be read, or a
-- refusal
abbrev pub EndsReading : Bool → List ℕ → (Stop → Type 0) → Stop → Type 0
EndsReading may_fail bytes Refuses stop = (stop ≡ Memory) ⊎ (IsUnread may_fail bytes stop ⊎ Refuses stop)
