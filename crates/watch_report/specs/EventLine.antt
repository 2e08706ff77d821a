-- The line of an event.
use Rattle.std.specs.Prelude.{◌≡◌, ℕ, List, ◌++◌, true, Some, codes, decimal, ⊤}
use Rattle.serde_json.specs.Data.{Data, Members, object, string, null, put}
use Rattle.serde_json.specs.Find.{get_member}
use Rattle.serde_json.specs.Written.{compact_text}
use Rattle.audit_report.specs.RuleText.{text_of_rule}
use Rattle.watch_report.specs.Ascii.{is_printable}
use Rattle.watch_report.specs.declared.event.Claim.{Claim}
use Rattle.watch_report.specs.declared.event.BreachReason.{BreachReason}
use Rattle.watch_report.specs.declared.event.BreachReason.TheVariants as reasons
use Rattle.watch_report.specs.declared.event.Event.{Event}
use Rattle.watch_report.specs.declared.event.Event.TheVariants as events

abbrev pub name_of : Event → List ℕ
name_of events.Claim = codes "claim"
name_of (events.Breach b) = codes "breach"
name_of (events.Gap g) = codes "gap"
name_of (events.Checkpoint file) = codes "checkpoint"
name_of events.End = codes "end"
name_of (events.Unread u) = codes "unread"

-- the violated rule, as reports name it; null for another refusal
abbrev pub rule_of : BreachReason → Data
rule_of (reasons.Rule rule) = string (text_of_rule rule)
rule_of reasons.Unknown = null
rule_of reasons.Order = null
rule_of reasons.Window = null
rule_of reasons.Next = null
rule_of reasons.NotOwed = null
rule_of reasons.NotWaiting = null
rule_of reasons.Sent = null
rule_of reasons.Held = null

-- the members, with a breach's rule
abbrev pub with_rule : Event → Members → Members
with_rule events.Claim ms = ms
with_rule (events.Breach b) ms = put (codes "rule") (rule_of b.reason) ms
with_rule (events.Gap g) ms = ms
with_rule (events.Checkpoint file) ms = ms
with_rule events.End ms = ms
with_rule (events.Unread u) ms = ms

-- a breach's rule is a member
abbrev pub HasRule : Event → Members → Type 0
HasRule events.Claim ms = ⊤
HasRule (events.Breach b) ms = get_member (codes "rule") ms ≡ Some (rule_of b.reason)
HasRule (events.Gap g) ms = ⊤
HasRule (events.Checkpoint file) ms = ⊤
HasRule events.End ms = ⊤
HasRule (events.Unread u) ms = ⊤

-- A JSON object in printable ASCII and an LF, with the claim, the event's name and a breach's rule.
pub record IsEventLine (claim : Claim) (event : Event) (text : List ℕ) : Type 0 where
  pub members : Members
  pub spelled : text ≡ compact_text (object members) ++ codes "\n"
  pub printable : is_printable (compact_text (object members)) ≡ true
  pub named : get_member (codes "event") members ≡ Some (string (name_of event))
  pub begins : get_member (codes "begin") members ≡ Some (string (decimal claim.begin))
  pub ends : get_member (codes "up_to") members ≡ Some (string (decimal claim.up_to))
  pub ruled : HasRule event members
