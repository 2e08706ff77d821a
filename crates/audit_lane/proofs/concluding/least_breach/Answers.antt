use Rattle.std.proofs.Common.{◌≤◌, List, length, sym, ap, ◌∙◌, subst, arith, take_all}
use Rattle.audit_model.specs.Least.{IsLeast}
use Rattle.audit_lane.specs.Content.{Found}
use Rattle.audit_lane.specs.Concluded.{ShowsBreach}
use Rattle.audit_lane.specs.Seen.{judgement_of}
use Rattle.audit_lane.proofs.Founds.{broken_more, passed_more}
use Rattle.audit_lane.proofs.concluding.least_breach.Goals as goal
use Rattle.audit_lane.proofs.concluding.least_breach.Goals.{in-Broken, in-Passed}

pub loop-finding-preserved : goal.loop-finding-preserved
loop-finding-preserved c =
    let fs = c.args.findings.now in
    let i = c.loop-finding.finding-index in
    elim c.match-outcome.branch [
      | in-Broken w ↦ broken_more fs i c.finding-item.result _ _ _ c.loop-finding-test.true c.finding-item.is (sym c.outcome.ensures.same ∙ ap judgement_of w.in-Broken.is) (w.least-is ∙ w.least-least.ensures) c.loop-finding.invariant
      | in-Passed w ↦ passed_more fs i c.finding-item.result _ _ _ c.loop-finding-test.true c.finding-item.is (sym c.outcome.ensures.same ∙ ap judgement_of w.in-Passed.is) w.least-is c.loop-finding.invariant
    ]

pub returns : goal.returns
returns c =
    let past : length c.args.findings.now ≤ c.loop-finding.finding-index = omega (arith, c.loop-finding-test.false) in
    subst (λ (l : List Found). IsLeast (ShowsBreach l) c.loop-finding.least) (take_all _ _ past) c.loop-finding.invariant
