use Rattle.audit_rules.specs.Seen.{situation}
use Rattle.audit_rules.proofs.Answered.{permission_may}
use Rattle.audit_rules.proofs.responses.permission_success.Goals as goal

pub returns : goal.returns
returns c = permission_may (situation c.args.act.now) c.requires.served c.requires.response c.in_ok-ips.ensures.0 c.in_ok-ips.ips.items c.in_ok-ips.ensures.1
