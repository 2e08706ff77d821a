use Rattle.std.proofs.Common.{◌≡◌, ℕ, Bool, List, Option, Ok, Some, inl, inr, sym, subst}
use Rattle.std.specs.List.{AllZip}
use Rattle.std.proofs.lemmas.Result.{IfErr-at_err, IfOk-at_ok}
use Rattle.audit_cert.specs.CertText.{cert_of}
use Rattle.audit_cert.specs.Spelling.{said_by}
use Rattle.audit_sightings.specs.Intake.{taken}
use Rattle.audit_files.specs.CaptureFaults.{EndsCaptures}
use Rattle.audit_files.specs.Captures.{AreTakenIn}
use Rattle.audit_files.specs.Refusals.{RefusesCertificate}
use Rattle.audit_files.proofs.Refusing.{err_then}
use Rattle.audit_files.proofs.judging.read_both.Goals as goal

pub returns-then-workers-eq1-clause-captures : goal.returns-then-workers-eq1-clause-captures
returns-then-workers-eq1-clause-captures g c = λ texts stands captures.
    let Holds : Type 0 = List ℕ → Option (List ℕ) in
    c.in_ok-intake.ensures.taken texts stands (subst (λ (h : Holds). AllZip (λ name text. h name.now ≡ Some text) c.args.captures.now texts) (sym c.read_text.ensures.kept) captures)

pub returns-clause-certificate : goal.returns-clause-certificate
returns-clause-certificate g c = λ text holds.
    IfOk-at_ok (λ certificate. cert_of text ≡ Ok (said_by certificate)) c.in_ok-certificate-2.was (c.join-certificate.ensures.first.0 text (c.in_ok-text.ensures.says text holds c.new.ensures))

pub returns-clause-captures : goal.returns-clause-captures
returns-clause-captures g c = λ texts stands captures.
    let Holds : Type 0 = List ℕ → Option (List ℕ) in
    IfOk-at_ok (λ done. AreTakenIn texts (taken done)) c.in_ok-intake-2.was
    (c.join-certificate.ensures.second.1.0 texts stands (subst (λ (h : Holds). AllZip (λ name text. h name.now ≡ Some text) c.args.captures.now texts) (sym c.read_text-2.ensures.kept) captures))

pub returns-in_err-intake-clause-refused : goal.returns-in_err-intake-clause-refused
returns-in_err-intake-clause-refused g c = λ text texts holds stands captures.
    let Holds : Type 0 = List ℕ → Option (List ℕ) in
    let certificate = c.in_ok-certificate.ensures.says text holds c.new-reader.ensures in
    let ends = c.in_err-intake.ensures.refused texts stands (subst (λ (h : Holds). AllZip (λ name text. h name.now ≡ Some text) c.args.captures.now texts) (sym c.read_text.ensures.kept) captures) in
    let here = subst (λ (f : List ℕ → Bool). EndsCaptures f c.args.captures.now c.args.intake.policy texts c.in_err-intake.field-0.0) c.read_text.ensures.steady ends in
    err_then c.from_residual-in_err-intake.result c.from_residual-in_err-intake.ensures.1
    (λ stop is. inr (c.in_ok-certificate.certificate, certificate, subst (λ s. EndsCaptures (g.S.Source.may_fail c.args.source.now) c.args.captures.now c.args.intake.policy texts s) (sym is) here))

pub returns-in_err-certificate-2-clause-refused : goal.returns-in_err-certificate-2-clause-refused
returns-in_err-certificate-2-clause-refused g c = λ text texts holds stands captures.
    let refuses = IfErr-at_err (RefusesCertificate text) c.in_err-certificate-2.was (c.join-certificate.ensures.first.1 text (c.in_ok-text.ensures.says text holds c.new.ensures)) in
    err_then c.from_residual-in_err-certificate-2.result c.from_residual-in_err-certificate-2.ensures.1 (λ stop is. inl (inr (inr (subst (λ s. RefusesCertificate text s) (sym is) refuses))))

pub returns-in_err-intake-2-clause-refused : goal.returns-in_err-intake-2-clause-refused
returns-in_err-intake-2-clause-refused g c = λ text texts holds stands captures.
    let Holds : Type 0 = List ℕ → Option (List ℕ) in
    let certificate = IfOk-at_ok (λ certificate. cert_of text ≡ Ok (said_by certificate)) c.in_ok-certificate-2.was (c.join-certificate.ensures.first.0 text (c.in_ok-text.ensures.says text holds c.new.ensures)) in
    let ends = IfErr-at_err (EndsCaptures (g.S.Source.may_fail c.read_text-2.new.source) c.args.captures.now c.args.intake.policy texts) c.in_err-intake-2.was
    (c.join-certificate.ensures.second.1.1 texts stands (subst (λ (h : Holds). AllZip (λ name text. h name.now ≡ Some text) c.args.captures.now texts) (sym c.read_text-2.ensures.kept) captures)) in
    let here = subst (λ (f : List ℕ → Bool). EndsCaptures f c.args.captures.now c.args.intake.policy texts c.in_err-intake-2.field-0.0) c.read_text-2.ensures.steady ends in
    err_then c.from_residual-in_err-intake-2.result c.from_residual-in_err-intake-2.ensures.1
    (λ stop is. inr (c.in_ok-certificate-2.field-0, certificate, subst (λ s. EndsCaptures (g.S.Source.may_fail c.args.source.now) c.args.captures.now c.args.intake.policy texts s) (sym is) here))
