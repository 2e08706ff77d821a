use Rattle.std.proofs.Common.{◌≡◌, ◌<◌, length, map, sym, ap, ◌∙◌, arith}
use Rattle.std.proofs.lemmas.Bool.{false≢true, true≢false}
use Rattle.audit_lane.specs.Content.{happening}
use Rattle.audit_lane.proofs.Lists.{map_at}
use Rattle.audit_lane.proofs.comparing.same_events.Goals as goal

pub returns-then-not-same_event : goal.returns-then-not-same_event
returns-then-not-same_event c =
    let one = c.args.one.now in
    let other = c.args.other.now in
    let more : c.loop-i.i < length other = omega (arith, c.loop-i-test.true, c.if-one-other.false) in
    let at : map happening one ≡ map happening other → happening c.index-one-i.result ≡ happening c.index-other-i.result =
    λ same. ap happening c.index-one-i.is ∙ map_at happening one other c.loop-i.i _ _ c.loop-i-test.true more same ∙ sym (ap happening c.index-other-i.is) in
    (λ h. absurd (false≢true h), λ same. absurd (true≢false (sym (c.same_event.ensures.1 (at same)) ∙ c.if-not-same_event.true)))
