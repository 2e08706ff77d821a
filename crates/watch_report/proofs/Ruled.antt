-- A breach's rule in an object.
use Rattle.std.proofs.Common.{◌≡◌, ℕ, List, codes, ◌∙◌}
use Rattle.serde_json.specs.Data.{Data, Members, put}
use Rattle.serde_json.proofs.Views.{get_member-put, get_member-put_other}
use Rattle.watch_report.specs.EventLine.{HasRule, with_rule, rule_of}
use Rattle.watch_report.specs.declared.event.Event.{Event}
use Rattle.watch_report.specs.declared.event.Event.TheVariants as events

pub has_rule : (event : Event) (ms : Members) → HasRule event (with_rule event ms)
has_rule events.Claim ms = tt
has_rule (events.Breach b) ms = get_member-put (codes "rule") (rule_of b.reason) ms
has_rule (events.Gap g) ms = tt
has_rule (events.Checkpoint file) ms = tt
has_rule events.End ms = tt
has_rule (events.Unread u) ms = tt

pub keeps_rule : (event : Event) (key : List ℕ) (d : Data) (ms : Members) → (codes "rule" ≡ key → ⊥) → HasRule event ms → HasRule event (put key d ms)
keeps_rule events.Claim key d ms apart h = tt
keeps_rule (events.Breach b) key d ms apart h = get_member-put_other (codes "rule") key d ms apart ∙ h
keeps_rule (events.Gap g) key d ms apart h = tt
keeps_rule (events.Checkpoint file) key d ms apart h = tt
keeps_rule events.End key d ms apart h = tt
keeps_rule (events.Unread u) key d ms apart h = tt
