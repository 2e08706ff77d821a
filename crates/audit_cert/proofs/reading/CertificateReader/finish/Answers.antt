use Rattle.std.proofs.Common.{◌≡◌, Result, Ok, ap, sym, ◌∙◌}
use Rattle.audit_text.specs.declared.line_fault.LineFault.{LineFault}
use Rattle.audit_cert.specs.declared.fault.CertFaultKind.{CertFaultKind}
use Rattle.audit_cert.specs.DraftView.{Drafted, Progress}
use Rattle.audit_cert.specs.CertText.{begun, said_in, cert_of}
use Rattle.audit_cert.proofs.reading.CertificateReader.finish.Goals as goal

abbrev read_as : Drafted → Result Drafted (LineFault CertFaultKind)
read_as said = Ok said

pub returns-in-Ok : goal.returns-in-Ok
unfolding cert_of
returns-in-Ok c text stands =
    let took = c.in-Ok.ensures begun text (rw c.self.view_is stands) in
    let said : c.into_draft.result ≡ took.0.said = c.into_draft.ensures ∙ ap (λ (p : Progress). p.said) took.2 in
    ap said_in took.1 ∙ ap read_as (sym said)
    ∙ ap (λ lanes. read_as (record { lanes = lanes; drops = c.into_draft.result.drops; skews = c.into_draft.result.skews })) (sym c.certificate.ensures.lanes)
    ∙ ap (λ drops. read_as (record { lanes = c.certificate.result.lanes; drops = drops; skews = c.into_draft.result.skews })) (sym c.certificate.ensures.drops)
    ∙ ap (λ skews. read_as (record { lanes = c.certificate.result.lanes; drops = c.certificate.result.drops; skews = skews })) (sym c.certificate.ensures.skews)
