use Rattle.std.proofs.Common.{◌≡◌, ◌++◌, ◌∙◌, ℕ, List, ap, sym, subst, refl, append-nil, append_assoc}
use Rattle.audit_text.specs.Reading.{UnlessMemory}
use Rattle.audit_cert.specs.CertFault.{is_memory}
use Rattle.audit_cert.specs.CertText.{cert_of}
use Rattle.audit_cert.specs.declared.fault.CertFaultKind.TheVariants.{Memory}
use Rattle.audit_files.specs.Stops.{EndsByCertificate}
use Rattle.audit_files.proofs.Refusing.{err_then}
use Rattle.audit_files.proofs.certificate_text.CertificateTextTextReading.feed.Goals as goal

pub returns-clause-ok : goal.returns-clause-ok
returns-clause-ok c = λ text has.
    let first = has.0 in
    let rest = c.as_slice.result.now in
    let piece = c.args.piece.now in
    let read = (first ++ rest) ++ piece in
    let whole : text ≡ first ++ rest = has.2 ∙ ap (λ (r : List ℕ). first ++ r) (sym c.as_slice.ensures.value) in (
      read,
      c.in_ok-reader-2.ensures.ok (first ++ rest) (c.in_ok-reader.ensures.ok first has.1),
      ap (λ (t : List ℕ). t ++ piece) whole ∙ sym (append-nil read) ∙ ap (λ (r : List ℕ). read ++ r) (sym c.clear.ensures.items),
    )

pub returns-in_err-extend_from_slice-clause-err : goal.returns-in_err-extend_from_slice-clause-err
returns-in_err-extend_from_slice-clause-err c = λ text has more.
    err_then c.from_residual.result c.from_residual.ensures.1 (λ stop memory. (record { kind = Memory; line = 1 }, subst (EndsByCertificate (record { kind = Memory; line = 1 })) (sym memory) refl, λ other. absurd (cc)))

pub returns-in_err-reader-clause-err : goal.returns-in_err-reader-clause-err
returns-in_err-reader-clause-err c = λ text has more.
    let first = has.0 in
    let rest = c.as_slice.result.now in
    let piece = c.args.piece.now in
    let whole : (first ++ rest) ++ (piece ++ more) ≡ (text ++ piece) ++ more = sym (append_assoc (first ++ rest) piece more) ∙ ap (λ (t : List ℕ). (t ++ piece) ++ more) (ap (λ (r : List ℕ). first ++ r) c.as_slice.ensures.value ∙ sym has.2) in
    let fault = c.in_err-reader.field-0.0 in
    err_then c.from_residual-in_err-reader.result c.from_residual-in_err-reader.ensures.1 (λ stop ends. (fault, ends, subst (λ (t : List ℕ). UnlessMemory (λ f. is_memory f.kind) fault (cert_of t)) whole (c.in_err-reader.ensures.err first has.1 (piece ++ more))))

pub returns-in_err-reader-2-clause-err : goal.returns-in_err-reader-2-clause-err
returns-in_err-reader-2-clause-err c = λ text has more.
    let first = has.0 in
    let rest = c.as_slice.result.now in
    let piece = c.args.piece.now in
    let whole : ((first ++ rest) ++ piece) ++ more ≡ (text ++ piece) ++ more = ap (λ (t : List ℕ). (t ++ piece) ++ more) (ap (λ (r : List ℕ). first ++ r) c.as_slice.ensures.value ∙ sym has.2) in
    let fault = c.in_err-reader-2.field-0.0 in
    err_then c.from_residual-in_err-reader-2.result c.from_residual-in_err-reader-2.ensures.1
    (λ stop ends. (fault, ends, subst (λ (t : List ℕ). UnlessMemory (λ f. is_memory f.kind) fault (cert_of t)) whole (c.in_err-reader-2.ensures.err (first ++ rest) (c.in_ok-reader.ensures.ok first has.1) more)))
