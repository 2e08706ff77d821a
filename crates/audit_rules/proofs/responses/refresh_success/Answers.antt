use Rattle.audit_rules.specs.Seen.{situation}
use Rattle.audit_rules.proofs.Answered.{refresh_may}
use Rattle.audit_rules.proofs.responses.refresh_success.Goals as goal

pub returns : goal.returns
returns c = refresh_may (situation c.args.act.now) c.requires.served c.requires.response c.in_ok-seconds.ensures.0 c.in_ok-seconds.seconds c.in_ok-seconds.ensures.1
