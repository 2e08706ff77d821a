use Rattle.std.proofs.Common.{◌≡◌, inl, inr, ℕ, List, sym, ◌∙◌, ap, subst}
use Rattle.audit_faults.specs.ArrivalKeys.{delivered_key, delivered_in_channel_key, IsEither}
use Rattle.audit_faults.specs.Keyed.{placed_as}
use Rattle.audit_faults.proofs.arrival_keys.add_of_peer.Goals as goal

pub returns-clause-here : goal.returns-clause-here
returns-clause-here c key relayed has =
    let s = c.args.sighting.now in
    elim has [
      | inl k ↦
          let same : c.delivered_key-named.result ≡ delivered_key s.from s.payload = c.delivered_key-named.ensures ∙ ap (λ (p : List ℕ). delivered_key s.from p) c.as_slice-data.ensures in
          c.in_ok-add_data-2.ensures.kept (placed_as key s.id s) (c.in_ok-add_data.ensures.here key (subst (λ (plain : ℕ). IsEither key plain s.to) (sym same) k))
      | inr k ↦
          let same : c.delivered_in_channel_key-in_channel.result ≡ delivered_in_channel_key s.payload = c.delivered_in_channel_key-in_channel.ensures ∙ ap delivered_in_channel_key c.as_slice-data.ensures in
          c.in_ok-add_data-2.ensures.here key (subst (λ (plain : ℕ). IsEither key plain s.to) (sym same) k)
    ]
