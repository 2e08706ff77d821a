use Rattle.std.proofs.Common.{sym, ap, ◌∙◌, arith}
use Rattle.explain_frames.proofs.Framing.{frame_is, what_of}
use Rattle.explain_frames.proofs.frames.Frames.frame.Goals as goal

pub returns : goal.returns
returns c = λ policy wanted packets_of file number shows less at.
    ap what_of (sym c.in_ok-get.was ∙ c.get.ensures) ∙ frame_is c.args.self.now policy wanted packets_of c.args.sight file number shows less (omega arith) at
