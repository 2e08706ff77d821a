use Rattle.prep_cut.proofs.Bounding.{bounded}
use Rattle.prep_cut.proofs.laws.released_is_bounded.Goals as goal

pub returns : goal.returns
returns c = λ plan captured line block pair relayed moment shown is left. bounded plan captured line block pair relayed moment shown is left
