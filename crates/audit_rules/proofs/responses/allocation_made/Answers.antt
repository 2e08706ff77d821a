use Rattle.std.proofs.Common.{◌≡◌, ap, ◌∙◌}
use Rattle.audit_stun.specs.Parts.{parts_of}
use Rattle.audit_rules.specs.Situation.{arrival_parts}
use Rattle.audit_rules.specs.Seen.{situation}
use Rattle.audit_rules.proofs.Answered.{new_may}
use Rattle.audit_rules.proofs.responses.allocation_made.Goals as goal

pub returns : goal.returns
returns c =
    let x = situation c.args.act.now in
    let made = c.in_ok-made.made in
    let held = c.in_ok-made.ensures in
    let id : c.tid.result ≡ (arrival_parts x).tid = c.tid.ensures ∙ ap (λ p. (parts_of p).tid) c.requires.request in
    rw id (new_may x c.requires.served c.requires.response c.requires.first held.0 made.user.now made.relayed made.seconds held.1 held.2 held.3)
