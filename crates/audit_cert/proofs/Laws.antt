-- What is read is spelled so, and what is spelled so is read.
use Rattle.std.proofs.Common.{◌≡◌, ℕ, Bool, true, false, List, Result, Ok, Err, refl, sym, ap, ◌∙◌}
use Rattle.std.specs.Prelude.{IfOk, MatchResult}
use Rattle.audit_text.specs.declared.line_fault.LineFault.{LineFault}
use Rattle.audit_model.specs.declared.certificate.Certificate.{Certificate}
use Rattle.audit_cert.specs.declared.fault.CertFaultKind.{CertFaultKind}
use Rattle.audit_cert.specs.CertFault.{is_memory}
use Rattle.audit_cert.specs.DraftView.{Drafted}
use Rattle.audit_cert.specs.Fits.{IsCertificate}
use Rattle.audit_cert.specs.CertText.{cert_of}
use Rattle.audit_cert.specs.Spelling.{spelling, said_by}
use Rattle.audit_cert.proofs.FoundTexts.{cert_found}
use Rattle.audit_cert.proofs.AgainTexts.{cert_again}
use Rattle.audit_cert.proofs.Steps.{ok_is}

abbrev Answer : Type 0
Answer = Result Certificate (LineFault CertFaultKind)

-- a function's answer is what the reading of the text gives
abbrev pub Exact : List ℕ → Answer → Type 0
Exact text result = MatchResult result (λ cert. cert_of text ≡ Ok (said_by cert)) (λ fault. is_memory fault.kind ≡ false → cert_of text ≡ Err fault)

pub is_found : (text : List ℕ) (result : Answer) → Exact text result → IfOk result (λ cert. text ≡ spelling (said_by cert))
is_found text (Ok cert) exact = (cert_found text (said_by cert) exact).spelled
is_found text (Err fault) exact = tt

-- of a text that has no fault, want of memory alone is told
only_memory : (fault : LineFault CertFaultKind) (read : Result Drafted (LineFault CertFaultKind)) (said : Drafted) → read ≡ Ok said → (t : Bool) → (t ≡ false → read ≡ Err fault) → t ≡ true
only_memory fault read said e true told = refl
only_memory fault read said e false told = absurd (let both = sym e ∙ told refl in cc)

pub is_only : (text : List ℕ) (result : Answer) → Exact text result → (said : Drafted) → IsCertificate said → text ≡ spelling said →
    MatchResult result (λ cert. said_by cert ≡ said) (λ fault. is_memory fault.kind ≡ true)
is_only text (Ok cert) exact said is spelled = ok_is (said_by cert) said (sym exact ∙ ap cert_of spelled ∙ cert_again said is)
is_only text (Err fault) exact said is spelled = only_memory fault (cert_of text) said (ap cert_of spelled ∙ cert_again said is) (is_memory fault.kind) exact
