use Rattle.std.proofs.Common.{sym}
use Rattle.audit_rules.proofs.Said.{may_says}
use Rattle.audit_rules.proofs.laws.change_is_said.Goals as goal

pub returns : goal.returns
returns c = λ x change may. sym (may_says x change may)
