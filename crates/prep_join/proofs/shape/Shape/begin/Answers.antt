use Rattle.std.proofs.Common.{refl}
use Rattle.prep_join.proofs.ShapesGrown.{first_section}
use Rattle.prep_join.proofs.shape.Shape.begin.Goals as goal

pub returns-then-self-2-clause-ok : goal.returns-then-self-2-clause-ok
returns-then-self-2-clause-ok c = λ done current at.
    first_section c.args.self.now _ done current c.args.block.now at c.requires c.if-self.false c.if-self-2.true refl refl refl refl refl refl
