use Rattle.std.proofs.lemmas.Result.{on_ok_weaker}
use Rattle.explain_frames.proofs.Framing.{shows_asked}
use Rattle.explain_frames.proofs.frames.Frames.request.Goals as goal

pub returns : goal.returns
returns c = λ policy wanted shows. on_ok_weaker c.put.result (λ asked. shows_asked c.args.self.now (record c.args.self.now { found = c.put.new.self }) policy wanted c.args.sight asked shows) c.put.ensures.ok
