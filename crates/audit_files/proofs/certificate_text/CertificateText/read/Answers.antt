use Rattle.std.proofs.Common.{◌≡◌, ◌++◌, ◌∙◌, [], ℕ, List, Ok, ap, append-nil, sym, subst}
use Rattle.audit_text.specs.Reading.{UnlessMemory}
use Rattle.audit_cert.specs.CertFault.{is_memory}
use Rattle.audit_cert.specs.CertText.{cert_of}
use Rattle.audit_cert.specs.Spelling.{said_by}
use Rattle.audit_files.proofs.Refusing.{err_then}
use Rattle.audit_files.proofs.certificate_text.CertificateText.read.Goals as goal

pub returns-clause-ok : goal.returns-clause-ok
returns-clause-ok c = λ text has.
    let first = has.0 in
    let rest = c.as_slice.result.now in
    let whole : text ≡ first ++ rest = has.2 ∙ ap (λ (r : List ℕ). first ++ r) (sym c.as_slice.ensures.value) in
    subst (λ (t : List ℕ). cert_of t ≡ Ok (said_by c.in_ok-finish.field-0)) (sym whole) (c.in_ok-finish.ensures (first ++ rest) (c.in_ok-reader.ensures.ok first has.1))

pub returns-in_err-reader-clause-err : goal.returns-in_err-reader-clause-err
returns-in_err-reader-clause-err c = λ text has.
    let first = has.0 in
    let rest = c.as_slice.result.now in
    let whole : (first ++ rest) ++ [] ≡ text = append-nil (first ++ rest) ∙ ap (λ (r : List ℕ). first ++ r) c.as_slice.ensures.value ∙ sym has.2 in
    let fault = c.in_err-reader.field-0.0 in
    err_then c.from_residual.result c.from_residual.ensures.1 (λ stop ends. (fault, ends, subst (λ (t : List ℕ). UnlessMemory (λ f. is_memory f.kind) fault (cert_of t)) whole (c.in_err-reader.ensures.err first has.1 [])))

pub returns-in_err-finish-clause-err : goal.returns-in_err-finish-clause-err
returns-in_err-finish-clause-err c = λ text has.
    let first = has.0 in
    let rest = c.as_slice.result.now in
    let whole : first ++ rest ≡ text = ap (λ (r : List ℕ). first ++ r) c.as_slice.ensures.value ∙ sym has.2 in
    let read = c.in_err-finish.ensures (first ++ rest) (c.in_ok-reader.ensures.ok first has.1) in
    err_then c.from_residual-in_err-finish.result c.from_residual-in_err-finish.ensures.1 (λ stop ends. (c.in_err-finish.field-0.0, ends, λ _. ap cert_of (sym whole) ∙ read))
