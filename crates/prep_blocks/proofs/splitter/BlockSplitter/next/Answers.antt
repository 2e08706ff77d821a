use Rattle.prep_blocks.proofs.Splitters.{gave_block, faulty}
use Rattle.prep_blocks.proofs.splitter.BlockSplitter.next.Goals as goal

pub returns-in-Ok-clause-block : goal.returns-in-Ok-clause-block
returns-in-Ok-clause-block c = λ text blocks stands.
    gave_block c.args.self.now _ text c.args.piece.now blocks c.in-Ok.step stands c.if-self.false (c.in-Ok.ensures.some stands.1.cut) c.in-Ok.ensures.empty

pub returns-in-Err-clause-err : goal.returns-in-Err-clause-err
returns-in-Err-clause-err c = λ text blocks stands named.
    faulty text c.args.self.now.held.items c.args.piece.now blocks c.args.self.now.scope c.in-Err.fault stands.1 (c.in-Err.ensures.err stands.1.cut named)
