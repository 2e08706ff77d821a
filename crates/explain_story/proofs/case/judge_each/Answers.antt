use Rattle.std.proofs.Common.{◌≡◌, ◌+◌, List, Some, slice_get, sym, ap, ◌∙◌, subst}
use Rattle.audit_lane.specs.Content.{Content, Found}
use Rattle.audit_lane.specs.Judged.{IsJudged, IsOf}
use Rattle.audit_lane.proofs.InOrder.{InOrderTo, order_more}
use Rattle.explain_story.proofs.case.judge_each.Goals as goal

pub lanes-preserved : goal.lanes-preserved
lanes-preserved c =
    let job = c.args.job.now in
    let found = c.in_ok-judge.field-0 in
    let input : found.input ≡ c.input.result.now.value = c.in_ok-judge.ensures.input ∙ c.in_ok-input.ensures in
    let number : found.input.number ≡ c.lanes.lane = ap (λ (x : Content). x.number) input ∙ c.input.ensures.number in
    let at : slice_get job found.input.number ≡ Some found.input = ap (slice_get job) number ∙ c.input.ensures.at ∙ ap (λ (x : Content). Some x) (sym input) in
    let outcome : IsJudged found.input found.outcome = subst (λ (x : Content). IsJudged x found.outcome) (sym c.in_ok-judge.ensures.input) c.in_ok-judge.ensures.outcome in
    let of : IsOf job found = record { input = at; outcome = outcome } in
    subst (λ (l : List Found). InOrderTo job (c.lanes.lane + 1) l) (sym c.in_ok-push.ensures.items) (order_more job c.lanes.lane c.lanes.findings.items found c.lanes.invariant of number)
