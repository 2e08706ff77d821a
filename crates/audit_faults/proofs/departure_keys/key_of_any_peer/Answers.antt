use Rattle.std.proofs.Common.{◌≡◌, ℕ, Some, List, sym, subst}
use Rattle.audit_stun.specs.ChannelData.{channel_data_of}
use Rattle.audit_faults.proofs.Seeking.{by_delivered_in_channel}
use Rattle.audit_faults.proofs.departure_keys.key_of_any_peer.Goals as goal

pub returns-in_default : goal.returns-in_default
returns-in_default c number arrival arrives d =
    absurd (c.in_default.ensures number d.past arrival.payload (subst (λ (p : List ℕ). channel_data_of p ≡ Some (number, arrival.payload, d.past)) (sym c.as_slice.ensures) d.says))

pub returns : goal.returns
returns c number arrival arrives d =
    let is = c.in-Some.ensures number d.past arrival.payload (subst (λ (p : List ℕ). channel_data_of p ≡ Some (number, arrival.payload, d.past)) (sym c.as_slice.ensures) d.says) in
    by_delivered_in_channel c.args.policy.now arrival c.args.departure.now arrives c.delivered_in_channel_key.result number c.in-Some.data.now is c.delivered_in_channel_key.ensures d
