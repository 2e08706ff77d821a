use Rattle.explain_state.proofs.lane_at.LaneAt.new.Goals as goal

pub returns-clause-before : goal.returns-clause-before
returns-clause-before c = c.new.ensures.start
