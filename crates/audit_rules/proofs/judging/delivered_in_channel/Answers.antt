use Rattle.std.proofs.Common.{ap, sym, ◌∙◌}
use Rattle.audit_stun.specs.ChannelData.{channel_data_of}
use Rattle.audit_rules.specs.Seen.{situation}
use Rattle.audit_rules.proofs.Answered.{channel_down_may}
use Rattle.audit_rules.proofs.judging.delivered_in_channel.Goals as goal

pub returns : goal.returns
returns c =
    let said = c.in-Some in
    channel_down_may (situation c.args.act.now) c.requires.served c.requires.goes c.in_ok-channel_down.ensures said.number said.bytes.now said.past (ap channel_data_of (sym c.as_slice.ensures) ∙ sym said.ensures.value)
