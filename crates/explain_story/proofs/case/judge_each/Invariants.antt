use Rattle.audit_lane.proofs.InOrder.{InOrderTo}
use Rattle.explain_story.proofs.case.judge_each.Given as goal

abbrev pub invariant-lanes : goal.invariant-lanes
invariant-lanes l = InOrderTo l.job l.lane l.findings.items
