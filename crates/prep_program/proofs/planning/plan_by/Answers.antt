-- What the first reading recorded goes into the plan.
use Rattle.std.proofs.lemmas.Result.{IfOk-at_ok}
use Rattle.prep_program.specs.declared.planning.Decided.{Decided}
use Rattle.prep_program.specs.Recordings.{RecordedAll}
use Rattle.prep_program.proofs.planning.plan_by.Goals as goal

pub returns-clause-planned : goal.returns-clause-planned
returns-clause-planned g c = λ captures texts.
    c.planned_of.ensures.plan captures
    (IfOk-at_ok (λ (decided : Decided). RecordedAll captures c.args.policy c.args.request.now.stated.since decided.allocations) c.in_ok-decided.was (c.read_both-hashed.ensures.noted captures texts))
