use Rattle.std.proofs.Common.{◌≡◌, ℕ, Some, List, sym, ◌∙◌, ap, subst}
use Rattle.audit_stun.specs.ChannelData.{channel_data_of}
use Rattle.audit_faults.specs.ArrivalKeys.{sent_in_channel_key, IsEither}
use Rattle.audit_faults.proofs.arrival_keys.add_channel.Goals as goal

pub returns-in_ok-add_data-clause-here : goal.returns-in_ok-add_data-clause-here
returns-in_ok-add_data-clause-here c key (number, bytes, past, says, either) =
    let s = c.args.sighting.now in
    let is = c.in-Some.ensures number past bytes (subst (λ (p : List ℕ). channel_data_of p ≡ Some (number, bytes, past)) (sym c.as_slice.ensures) says) in
    let same : c.sent_in_channel_key.result ≡ sent_in_channel_key bytes = c.sent_in_channel_key.ensures ∙ ap sent_in_channel_key is in
    c.in_ok-add_data.ensures.here key (subst (λ (plain : ℕ). IsEither key plain s.from) (sym same) either)

pub returns-in_default-clause-here : goal.returns-in_default-clause-here
returns-in_default-clause-here c key (number, bytes, past, says, either) =
    absurd (c.in_default.ensures number past bytes (subst (λ (p : List ℕ). channel_data_of p ≡ Some (number, bytes, past)) (sym c.as_slice.ensures) says))
