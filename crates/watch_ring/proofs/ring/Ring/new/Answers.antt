use Rattle.std.proofs.Common.{arith}
use Rattle.std.proofs.lemmas.Str.Pattern.{rfind_char}
use Rattle.watch_ring.proofs.Dots.{split_at_dot, split_nowhere}
use Rattle.watch_ring.proofs.ring.Ring.new.Goals as goal

pub returns-in-Some : goal.returns-in-Some
returns-in-Some c =
    let found = rw c.in-Some.is at (rfind_char 46 c.args.name.now c.rfind.result c.rfind.ensures.cases (omega arith)) in
    split_at_dot c.args.name.now c.split_at.result.0.now c.split_at.result.1.now c.in-Some.at found.0 found.1 found.2 c.split_at.ensures.front c.split_at.ensures.back

pub returns-in-None : goal.returns-in-None
returns-in-None c =
    split_nowhere c.args.name.now (rw c.in-None.is at (rfind_char 46 c.args.name.now c.rfind.result c.rfind.ensures.cases (omega arith)))
