use Rattle.std.proofs.Common.{◌≡◌, inl, inr, true, false, sym, ◌∙◌}
use Rattle.audit_model.specs.declared.policy.Policy.{Policy}
use Rattle.audit_sightings.specs.Intake.{taken}
use Rattle.audit_faults.specs.Causes.{SentOn, SentInChannel, Delivered, DeliveredInChannel}
use Rattle.audit_faults.specs.Leased.{address_number}
use Rattle.audit_faults.proofs.Pairing.{once_paired}
use Rattle.audit_faults.proofs.Seeking.{has_owned_key_by}
use Rattle.audit_faults.proofs.begun.was_begun.Goals as goal

pub returns : goal.returns
returns c = (
  λ t. c.begun_by_data-by_any_peer.ensures.some t,
  λ e.
      let taken = taken c.args.intake.now in
      let fault = c.args.fault in
      let until = c.args.left.now.hi in
      let departure = c.args.departure.now in
      let pairs = c.args.arrivals.pairs.now in
      let are = c.requires.arrivals.pairs in
      let policy = c.policy-policy.result.now in
      let s = e.0 in
      elim e.2.2 [
        | inl h ↦ absurd (let k : true ≡ false = sym (c.begun_by_data-by_sends.ensures.all (address_number s.from) s (λ unless. (once_paired taken pairs are fault s.from s.to departure.from until h.1 unless).1) e.1
            (has_owned_key_by (λ (p : Policy). SentOn p s departure) c.key_of_sends-sends.result (address_number s.from) s policy taken.policy c.policy-policy.ensures (c.key_of_sends-sends.ensures s e.2.0) h.0) e.2) ∙ c.if-by_sends.false in cc)
        | inr (inl h) ↦ absurd (let k : true ≡ false = sym (c.begun_by_data-by_channel.ensures.all (address_number s.from) s (λ unless. (once_paired taken pairs are fault s.from s.to departure.from until h.2 unless).1) e.1
            (has_owned_key_by (λ (p : Policy). SentInChannel p h.0 s departure) c.key_of_channel_data-channel.result (address_number s.from) s policy taken.policy c.policy-policy.ensures (c.key_of_channel_data-channel.ensures h.0 s e.2.0) h.1) e.2) ∙ c.if-by_channel.false in cc)
        | inr (inr (inl h)) ↦ absurd (let k : true ≡ false = sym (c.begun_by_data-by_named_peer.ensures.all (address_number s.to) s (λ unless. (once_paired taken pairs are fault departure.to departure.from s.to until h.1 unless).0) e.1
            (has_owned_key_by (λ (p : Policy). Delivered p s departure) c.key_of_named_peer-named_peer.result (address_number s.to) s policy taken.policy c.policy-policy.ensures (c.key_of_named_peer-named_peer.ensures s e.2.0) h.0) e.2) ∙ c.if-by_named_peer.false in cc)
        | inr (inr (inr h)) ↦ c.begun_by_data-by_any_peer.ensures.all (address_number s.to) s (λ unless. (once_paired taken pairs are fault departure.to departure.from s.to until h.2 unless).0) e.1
            (has_owned_key_by (λ (p : Policy). DeliveredInChannel p h.0 s departure) c.key_of_any_peer-any_peer.result (address_number s.to) s policy taken.policy c.policy-policy.ensures (c.key_of_any_peer-any_peer.ensures h.0 s e.2.0) h.1) e.2
      ],
)
