use Rattle.audit_rules.specs.Seen.{situation}
use Rattle.audit_rules.proofs.Answered.{channel_bind_may}
use Rattle.audit_rules.proofs.responses.channel_bind_success.Goals as goal

pub returns : goal.returns
returns c =
    let bound = c.in_ok-bound.bound in
    let held = c.in_ok-bound.ensures in
    channel_bind_may (situation c.args.act.now) c.requires.served c.requires.response held.0 bound.number bound.peer held.1 held.2
