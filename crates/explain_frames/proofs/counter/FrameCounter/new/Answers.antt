use Rattle.explain_frames.proofs.Going.{counts_none}
use Rattle.explain_frames.proofs.counter.FrameCounter.new.Goals as goal

pub returns-clause-counts : goal.returns-clause-counts
returns-clause-counts c = counts_none c.args.policy.now c.in_ok-new.field-0 c.in_ok-new.ensures.packets c.in_ok-new.ensures.sightings
