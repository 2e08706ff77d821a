use Rattle.prep_cut.proofs.Keeping.{early}
use Rattle.prep_cut.proofs.laws.edge_is_early.Goals as goal

pub returns : goal.returns
returns c = early
