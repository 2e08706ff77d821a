-- What ends a run before its answer, and how that is reported.
use Rattle.std.specs.Prelude.{◌≡◌, ℕ, List, true}
use Rattle.audit_text.specs.declared.line_fault.LineFault.{LineFault}
use Rattle.audit_model.specs.declared.policy_fault.PolicyFaultKind.{PolicyFaultKind}
use Rattle.audit_model.specs.declared.write_fault.WriteFault.{WriteFault}
use Rattle.audit_model.specs.declared.write_fault.WriteFault.TheVariants as write
use Rattle.audit_model.specs.PolicyFault as policy
use Rattle.audit_keys.specs.declared.cred_fault.CredFaultKind.{CredFaultKind}
use Rattle.audit_keys.specs.CredFault as credentials
use Rattle.audit_cert.specs.declared.fault.CertFaultKind.{CertFaultKind}
use Rattle.audit_cert.specs.CertFault as certificate
use Rattle.audit_sightings.specs.declared.fault.IntakeFault.{IntakeFault}
use Rattle.audit_sightings.specs.IntakeFault.{IsMemory, intake_code_of}
use Rattle.audit_files.specs.declared.stop.Place.{Place}
use Rattle.audit_files.specs.declared.stop.Place.TheVariants.{Policy, Credentials, Certificate, Capture}
use Rattle.audit_files.specs.declared.stop.Stop.{Stop}
use Rattle.audit_files.specs.declared.stop.Stop.TheVariants.{Refused, Memory, Read, Write}

-- the exit status
abbrev pub status_of_stop : Stop → ℕ
status_of_stop (Refused code place) = 2
status_of_stop Memory = 3
status_of_stop Read = 4
status_of_stop Write = 4

-- a fault ends a run by its code and its place, or by exhausted memory if it is that
abbrev pub EndsBy : Type 0 → List ℕ → Place → Stop → Type 0
EndsBy Lacks code place (Refused said at) = (Lacks → ⊥) × (said.now ≡ code) × (at ≡ place)
EndsBy Lacks code place Memory = Lacks
EndsBy Lacks code place Read = ⊥
EndsBy Lacks code place Write = ⊥

abbrev pub EndsByPolicy : LineFault PolicyFaultKind → Stop → Type 0
EndsByPolicy fault stop = EndsBy (policy.is_memory fault.kind ≡ true) (policy.policy_code_of fault.kind) (Policy fault.line) stop

abbrev pub EndsByCredentials : LineFault CredFaultKind → Stop → Type 0
EndsByCredentials fault stop = EndsBy (credentials.is_memory fault.kind ≡ true) (credentials.cred_code_of fault.kind) (Credentials fault.line) stop

abbrev pub EndsByCertificate : LineFault CertFaultKind → Stop → Type 0
EndsByCertificate fault stop = EndsBy (certificate.is_memory fault.kind ≡ true) (certificate.cert_code_of fault.kind) (Certificate fault.line) stop

abbrev pub EndsByIntake : IntakeFault → Stop → Type 0
EndsByIntake fault stop = EndsBy (IsMemory fault.kind) (intake_code_of fault.kind) (Capture fault.file) stop

abbrev pub EndsByWrite : WriteFault → Stop → Type 0
EndsByWrite write.Device stop = stop ≡ Write
EndsByWrite write.Memory stop = stop ≡ Memory
