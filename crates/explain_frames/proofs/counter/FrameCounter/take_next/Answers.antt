use Rattle.std.proofs.Common.{◌++◌, refl}
use Rattle.explain_frames.proofs.Going.{amid_next, went_end}
use Rattle.explain_frames.proofs.counter.FrameCounter.take_next.Goals as goal

pub returns-in-None-clause-none : goal.returns-in-None-clause-none
returns-in-None-clause-none c = λ text wanted packets_of amid.
    went_end c.args.self.now (record c.args.self.now { reader = c.next.new.self }) c.args.frames.now text c.args.rest.now wanted packets_of refl refl refl amid
    (rw c.in-None.is at (c.in_ok-next.ensures.none text (packets_of c.args.self.now.file ++ amid.more) amid.read))

pub returns-in_ok-take-in-Some-clause-packet : goal.returns-in_ok-take-in-Some-clause-packet
returns-in_ok-take-in-Some-clause-packet c = λ text wanted packets_of amid.
    let gave = rw c.in-Some.is at (c.in_ok-next.ensures.packet text (packets_of c.args.self.now.file ++ amid.more) amid.read) in
    amid_next c.args.self.now c.take.new.self c.args.frames.now c.take.new.frames text c.args.rest.now c.in-Some.behind.now c.in-Some.packet wanted packets_of
    c.take.ensures.policy c.take.ensures.file amid (rw c.take.ensures.reader gave) c.in_ok-take-in-Some.ensures.takes
