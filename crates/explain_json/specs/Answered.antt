-- The members of an answer in JSON that are the verdict.
use Rattle.std.specs.Prelude.{◌≡◌, ℕ, List, Option, Some, None, codes}
use Rattle.audit_model.specs.declared.verdict.Verdict.{Verdict}
use Rattle.audit_model.specs.declared.verdict.Verdict.TheVariants.{Conforming, NotShown}
use Rattle.audit_report.specs.RuleText.{text_of_rule}
use Rattle.serde_json.specs.Data.{Data, Members, object, string, null}
use Rattle.serde_json.specs.Find.{get}
use Rattle.serde_json.specs.View.{members_view}
use Rattle.serde_json.specs.Written.{IsInOrder}
use Rattle.explain_json.specs.declared.object.Object.{Object}

-- the members so far
abbrev pub members_of : Object → Members
members_of o = members_view o.members.entries

abbrev pub data_of : Object → Data
data_of o = object (members_of o)

-- the verdict's word
abbrev pub word_of : Verdict → List ℕ
word_of (Conforming datagrams lanes) = codes "conforming"
word_of (NotShown breach) = codes "not shown"

-- the violated rule, by its name in reports
abbrev pub rule_of : Verdict → Data
rule_of (Conforming datagrams lanes) = null
rule_of (NotShown breach) = string (text_of_rule breach.rule)

-- The text is that of a JSON object, whose members `verdict` and `rule` are the verdict's.
pub record IsAnswer (verdict : Verdict) (text : List ℕ) : Type 0 where
  pub value : Data
  pub spelled : IsInOrder text value
  pub verdict_is : get (codes "verdict") value ≡ Some (string (word_of verdict))
  pub rule_is : get (codes "rule") value ≡ Some (rule_of verdict)
