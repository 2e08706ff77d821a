use Rattle.std.proofs.Common.{sym, ◌∙◌}
use Rattle.audit_rules.proofs.OneAnswer.{same_case}
use Rattle.audit_rules.proofs.Said.{case_says}
use Rattle.audit_rules.proofs.laws.one_answer.Goals as goal

pub returns-clause-case : goal.returns-clause-case
returns-clause-case c = λ x up down one other first second r s. same_case one other x first second up down r s

pub returns-clause-change : goal.returns-clause-change
returns-clause-change c = λ x one other first second r s. sym (case_says one x first r) ∙ case_says other x second s
