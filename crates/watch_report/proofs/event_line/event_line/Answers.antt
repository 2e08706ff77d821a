use Rattle.std.proofs.Common.{◌≡◌, ℕ, List, codes, decimal, ap, get_or, arith, sym, subst, ◌∙◌}
use Rattle.std.proofs.lemmas.Result.{IfOk-weaker}
use Rattle.serde_json.specs.Data.{string}
use Rattle.serde_json.specs.Find.{get_member}
use Rattle.serde_json.specs.View.{members_view}
use Rattle.serde_json.proofs.Views.{get_member-put, get_member-put_other}
use Rattle.watch_report.specs.EventLine.{HasRule, name_of}
use Rattle.watch_report.proofs.Plain.{printable_object}
use Rattle.watch_report.proofs.Ruled.{has_rule, keeps_rule}
use Rattle.watch_report.proofs.event_line.event_line.Goals as goal

pub returns : goal.returns
returns c =
    let set = members_view c.set_rule.new.object.members.entries in
    let named = members_view c.word-2.new.self.members.entries in
    let begun = members_view c.nanoseconds.new.self.members.entries in
    let whole = c.nanoseconds-2.new.self in
    let first : List ℕ → ℕ = λ text. get_or text 0 0 in
    let name = string (name_of c.args.event.now) in
    let begin = string (decimal c.args.claim.begin) in
    let up_to = string (decimal c.args.claim.up_to) in
    let has_name = c.in_ok-word-2.ensures in
    let has_begin = c.in_ok-nanoseconds.ensures in
    let has_up_to = c.in_ok-nanoseconds-2.ensures in
    let not_event : codes "event" ≡ codes "up_to" → ⊥ = λ e. omega (arith, ap first e) in
    let not_begin : codes "begin" ≡ codes "up_to" → ⊥ = λ e. omega (arith, ap first e) in
    let apart : codes "event" ≡ codes "begin" → ⊥ = λ e. omega (arith, ap first e) in
    let event = c.args.event.now in
    let from_event : codes "rule" ≡ codes "event" → ⊥ = λ e. omega (arith, ap first e) in
    let from_begin : codes "rule" ≡ codes "begin" → ⊥ = λ e. omega (arith, ap first e) in
    let from_up_to : codes "rule" ≡ codes "up_to" → ⊥ = λ e. omega (arith, ap first e) in
    let before = members_view c.add_event.new.object.members.entries in
    let ruled = subst (HasRule event) (sym c.in_ok-set_rule.ensures) (has_rule event before) in
    let ruled-2 = subst (HasRule event) (sym (rw c.name.ensures at has_name)) (keeps_rule event (codes "event") name set from_event ruled) in
    let ruled-3 = subst (HasRule event) (sym has_begin) (keeps_rule event (codes "begin") begin named from_begin ruled-2) in
    IfOk-weaker c.to_line.result _ _ (λ text spelled. record {
      members = members_view whole.members.entries;
      spelled = spelled;
      printable = printable_object (members_view whole.members.entries) whole.plain;
      named = ap (get_member (codes "event")) has_up_to ∙ get_member-put_other (codes "event") (codes "up_to") up_to begun not_event
          ∙ ap (get_member (codes "event")) has_begin ∙ get_member-put_other (codes "event") (codes "begin") begin named apart
          ∙ ap (get_member (codes "event")) (rw c.name.ensures at has_name) ∙ get_member-put (codes "event") name set;
      begins = ap (get_member (codes "begin")) has_up_to ∙ get_member-put_other (codes "begin") (codes "up_to") up_to begun not_begin
          ∙ ap (get_member (codes "begin")) has_begin ∙ get_member-put (codes "begin") begin named;
      ends = ap (get_member (codes "up_to")) has_up_to ∙ get_member-put (codes "up_to") up_to begun;
      ruled = subst (HasRule event) (sym has_up_to) (keeps_rule event (codes "up_to") up_to begun from_up_to ruled-3);
    }) c.to_line.ensures.text
