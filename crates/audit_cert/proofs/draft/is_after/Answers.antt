use Rattle.std.proofs.Common.{Option, sym, ap, ◌∙◌}
use Rattle.audit_model.specs.declared.certificate.CertSkew.{CertSkew}
use Rattle.audit_cert.proofs.Skews.{last_is, after_last}
use Rattle.audit_cert.proofs.draft.is_after.Goals as goal

pub returns-in-Some : goal.returns-in-Some
returns-in-Some c = ap (λ (o : Option CertSkew). after_last o c.args.iface) c.in-Some.ensures.value ∙ sym (last_is c.args.skews.now c.args.iface)

pub returns-in-None : goal.returns-in-None
returns-in-None c = ap (λ (o : Option CertSkew). after_last o c.args.iface) c.in-None.ensures.value ∙ sym (last_is c.args.skews.now c.args.iface)
