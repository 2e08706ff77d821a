use Rattle.std.proofs.Common.{◌≡◌, true, ap, ◌∙◌}
use Rattle.serde_json.specs.View.{members_view, view}
use Rattle.watch_report.specs.Ascii.{are_plain}
use Rattle.watch_report.proofs.Plain.{plain_put, from_each}
use Rattle.watch_report.proofs.object.Object.put.Goals as goal

pub invariant_of-self : goal.invariant_of-self
invariant_of-self c = record {
  plain =
      let old = c.args.self.now.plain in
      let key = c.args.key.now in
      let value = view c.args.value in
      let before = c.args.self.now.members.entries in
      from_each c.put.result _ _ (are_plain (members_view c.put.new.map.entries) ≡ true)
      (λ same. ap are_plain same ∙ plain_put key value (members_view before) c.requires.key c.requires.value old)
      (λ same. ap (λ es. are_plain (members_view es)) same ∙ old)
      c.put.ensures.ok c.put.ensures.err;
}
