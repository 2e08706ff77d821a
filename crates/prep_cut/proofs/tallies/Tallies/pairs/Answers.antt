use Rattle.std.proofs.Common.{subst, sym, ℕ}
use Rattle.prep_cut.specs.Pairs.{ArePaired}
use Rattle.prep_cut.proofs.Pairing.{are_paired}
use Rattle.prep_cut.proofs.tallies.Tallies.pairs.Goals as goal

pub returns-clause-paired : goal.returns-clause-paired
returns-clause-paired c = λ plan blocks are.
    subst (λ (n : ℕ). ArePaired plan blocks n) (sym c.pairs.ensures) (are_paired plan blocks c.args.self.now.causes are.causes)
