use Rattle.audit_rules.specs.FirstRule.{checks_of}
use Rattle.audit_rules.proofs.Chosen.{one_first}
use Rattle.audit_rules.proofs.laws.one_first_rule.Goals as goal

pub returns : goal.returns
returns c = λ x one other first second. one_first (checks_of x) one other first second
