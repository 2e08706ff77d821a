use Rattle.std.proofs.Common.{sym}
use Rattle.audit_rules.specs.Keys.{with_keys}
use Rattle.audit_rules.proofs.Keys.{may_keyed, change_keyed}
use Rattle.audit_rules.proofs.KeyChecks.{first_keyed}
use Rattle.audit_rules.proofs.laws.keys_that_matter.Goals as goal

pub returns-clause-may : goal.returns-clause-may
returns-clause-may c = λ x key_for agree change. (
  may_keyed key_for x agree change,
  may_keyed x.key_for (with_keys key_for x) (λ user realm names_user names_realm. sym (agree user realm names_user names_realm)) change,
)

pub returns-clause-said : goal.returns-clause-said
returns-clause-said c = λ x key_for. change_keyed key_for x

pub returns-clause-first : goal.returns-clause-first
returns-clause-first c = λ x key_for agree rule. (
  first_keyed key_for x agree rule,
  first_keyed x.key_for (with_keys key_for x) (λ user realm names_user names_realm. sym (agree user realm names_user names_realm)) rule,
)
