use Rattle.std.proofs.Common.{◌∙◌, ap}
use Rattle.audit_faults.specs.ArrivalKeys.{sent_in_channel_key}
use Rattle.audit_faults.proofs.Seeking.{by_channel}
use Rattle.audit_faults.proofs.departure_keys.key_of_channel_data.Goals as goal

pub returns : goal.returns
returns c number arrival arrives s =
    by_channel c.args.policy.now arrival c.args.departure.now arrives c.sent_in_channel_key.result number (c.sent_in_channel_key.ensures ∙ ap sent_in_channel_key c.as_slice.ensures) s
