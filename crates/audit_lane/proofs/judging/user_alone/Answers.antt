use Rattle.std.proofs.Common.{◌∙◌, ap, sym, arith}
use Rattle.audit_lane.specs.Content.{numbered}
use Rattle.audit_lane.proofs.Alone.{alone, past}
use Rattle.audit_lane.proofs.judging.user_alone.Goals as goal

pub returns-then-start-users : goal.returns-then-start-users
returns-then-start-users c = alone c.args.users.now c.in-Some.number _ (omega arith) c.if-start-users.true ∙ sym (ap (numbered c.args.users.now) c.in-Some.is)

pub returns-else-start-users : goal.returns-else-start-users
returns-else-start-users c = past c.args.users.now c.in-Some.number (omega (arith, c.if-start-users.false)) ∙ sym (ap (numbered c.args.users.now) c.in-Some.is)
