use Rattle.explain_frames.specs.FramesOf.{sight_at}
use Rattle.explain_frames.proofs.frames.Frames.new.Goals as goal

pub returns : goal.returns
returns c = λ policy packets_of file number index less small. c.new.ensures (sight_at file number index)
