-- The fault of a certificate line, by the fault of one of its words.
use Rattle.std.specs.Prelude.{ℕ, Bool, true, false, List, Result, Ok, Err, codes}
use Rattle.audit_text.specs.declared.token.TokenFault.{TokenFault}
use Rattle.audit_text.specs.declared.token.TokenFault.TheVariants as token
use Rattle.audit_cert.specs.declared.fault.CertFaultKind.{CertFaultKind}
use Rattle.audit_cert.specs.declared.fault.CertFaultKind.TheVariants.{Heading, Line, Number, LaneDouble, Limit, EndMissing, Memory, SkewOrder}

-- the number under which users know a fault
abbrev pub cert_code_of : CertFaultKind → List ℕ
cert_code_of Heading = codes "T1"
cert_code_of Line = codes "T2"
cert_code_of Number = codes "T3"
cert_code_of LaneDouble = codes "T4"
cert_code_of Limit = codes "T5"
cert_code_of EndMissing = codes "T6"
cert_code_of Memory = codes "T7"
cert_code_of SkewOrder = codes "T8"

abbrev pub cert_fault_of : TokenFault → CertFaultKind
cert_fault_of token.Shape = Line
cert_fault_of token.Number = Number

-- the result of a line, by that of its word
abbrev pub of_word : {A : Type 0} → Result A TokenFault → Result A CertFaultKind
of_word (Ok x) = Ok x
of_word (Err fault) = Err (cert_fault_of fault)

abbrev pub is_memory : CertFaultKind → Bool
is_memory Memory = true
is_memory Heading = false
is_memory Line = false
is_memory Number = false
is_memory LaneDouble = false
is_memory Limit = false
is_memory EndMissing = false
is_memory SkewOrder = false
