use Rattle.prep_join.proofs.Written.{joined-one}
use Rattle.prep_join.proofs.laws.one_more_capture.Goals as goal

pub returns : goal.returns
returns c = λ done current. joined-one done current
