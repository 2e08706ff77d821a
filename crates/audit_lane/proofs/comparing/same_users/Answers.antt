use Rattle.std.proofs.Common.{◌<◌, length, sym, ◌∙◌, arith}
use Rattle.std.proofs.lemmas.Bool.{false≢true, true≢false}
use Rattle.audit_lane.specs.Content.{user_of}
use Rattle.audit_lane.proofs.Lists.{map_at}
use Rattle.audit_lane.proofs.comparing.same_users.Goals as goal

pub returns-then-not-same_user : goal.returns-then-not-same_user
returns-then-not-same_user c =
    let one = c.args.one.now in
    let other = c.args.other.now in
    let more : c.loop-i.i < length other = omega (arith, c.loop-i-test.true, c.if-one-other.false) in
    (λ h. absurd (false≢true h), λ same. absurd (true≢false (sym (c.same_user.ensures.1 (map_at user_of one other c.loop-i.i _ _ c.loop-i-test.true more same)) ∙ c.if-not-same_user.true)))
