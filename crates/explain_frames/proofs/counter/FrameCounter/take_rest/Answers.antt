use Rattle.std.proofs.Common.{◌∙◌}
use Rattle.explain_frames.proofs.counter.FrameCounter.take_rest.Goals as goal

pub packets-preserved : goal.packets-preserved
packets-preserved c = record {
  amid = λ text wanted packets_of start. rw c.in-Some.is at (c.in_ok-behind.ensures.packet text wanted packets_of (c.packets.invariant.amid text wanted packets_of start));
  policy = c.take_next.ensures.policy ∙ c.packets.invariant.policy;
  file = c.take_next.ensures.file ∙ c.packets.invariant.file;
}
