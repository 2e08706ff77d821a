use Rattle.std.proofs.Common.{◌++◌, codes, ap, ◌∙◌}
use Rattle.serde_json.proofs.Views.{view-Object}
use Rattle.serde_json.specs.View.{members_view}
use Rattle.serde_json.specs.Written.{compact_text, has_float}
use Rattle.watch_report.proofs.Plain.{no_float}
use Rattle.watch_report.proofs.object.Object.to_line.Goals as goal

pub returns : goal.returns
returns c =
    let members = members_view c.args.self.members.entries in
    let seen = view-Object c.args.self.members in
    let text = c.in_ok-text.ensures.text (ap has_float seen ∙ no_float members c.args.self.plain) ∙ ap compact_text seen in
    record { text = c.in_ok-push_str.ensures.bytes ∙ ap (λ t. t ++ codes "\n") text }
