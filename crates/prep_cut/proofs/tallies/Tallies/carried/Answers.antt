use Rattle.std.proofs.Common.{subst, sym, refl, ℕ}
use Rattle.prep_cut.specs.Unread.{AreCarried}
use Rattle.prep_cut.proofs.Pairing.{are_carried}
use Rattle.prep_cut.proofs.tallies.Tallies.carried.Goals as goal

pub returns-clause-carried : goal.returns-clause-carried
returns-clause-carried c = λ plan blocks are. subst (λ (n : ℕ). AreCarried plan blocks n) (sym (rw (c.carried.ensures, c.reach.ensures) refl)) (are_carried plan blocks c.args.self.now are)
