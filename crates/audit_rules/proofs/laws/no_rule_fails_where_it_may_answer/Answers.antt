use Rattle.audit_rules.specs.FirstRule.{checks_of}
use Rattle.audit_rules.proofs.Chosen.{may_all, all_may, not_both}
use Rattle.audit_rules.proofs.laws.no_rule_fails_where_it_may_answer.Goals as goal

pub returns-clause-exact : goal.returns-clause-exact
returns-clause-exact c = λ x up down. (all_may x, λ may. may_all x may.0 up down may.1)

pub returns-clause-fails : goal.returns-clause-fails
returns-clause-fails c = λ x up down rule first change may. not_both (checks_of x) rule first (may_all x change up down may)
