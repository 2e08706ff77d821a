use Rattle.std.proofs.Common.{◌≡◌, ◌++◌, ◌∷◌, [], List, true, length, sym, ap, ◌∙◌, arith}
use Rattle.std.proofs.lemmas.List.{length-append}
use Rattle.audit_model.specs.declared.certificate.CertSkew.{CertSkew}
use Rattle.audit_model.specs.Skews.{rise}
use Rattle.audit_cert.specs.CertLines.{is_after_skews}
use Rattle.audit_cert.proofs.Skews.{rise_push}
use Rattle.audit_cert.proofs.draft.CertificateDraft.add_skew.Goals as goal

pub invariant_of-self-2 : goal.invariant_of-self-2
invariant_of-self-2 c =
    let skews = c.self.inside.skews in
    let skew = c.in_ok-skew.skew in
    let after : is_after_skews skews skew.iface ≡ true = ap (λ (ss : List CertSkew). is_after_skews ss skew.iface) (sym c.as_slice.ensures) ∙ sym c.is_after.ensures ∙ c.if-not-is_after.false in
    let pushed : c.push.new.self ≡ skews ++ skew ∷ [] = c.in_ok-push.ensures.ok in
    record {
      counted = c.self.invariant.counted;
      few_events = c.self.invariant.few_events;
      paired = c.self.invariant.paired;
      distinct = c.self.invariant.distinct;
      few_lanes = c.self.invariant.few_lanes;
      rising = ap rise pushed ∙ rise_push skews skew c.self.invariant.rising after;
      few_skews = omega (arith, ap length pushed, length-append skews (skew ∷ []), c.len.ensures, c.if-len-ge-MAX_SKEWS.false);
    }
