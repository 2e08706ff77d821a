use Rattle.std.proofs.Common.{◌++◌}
use Rattle.explain_frames.proofs.Going.{amid_start}
use Rattle.explain_frames.proofs.counter.FrameCounter.start.Goals as goal

pub returns-clause-goes : goal.returns-clause-goes
returns-clause-goes c = λ text wanted packets_of goes.
    let begins = rw c.new-held.ensures.items at (c.in_ok-rest.ensures.ok text (packets_of c.args.self.now.file) goes.read) in
    let takes = rw c.deref.ensures.value at c.in_ok-take_all.ensures.takes in
    amid_start c.args.self.now c.take_all.new.self c.args.frames.now c.take_all.new.frames (text ++ c.args.piece.now) c.in_ok-rest.rest.now c.start.new.out.items wanted packets_of
    c.take_all.ensures.policy c.take_all.ensures.file goes.counts goes.shows (rw c.take_all.ensures.reader begins) takes
