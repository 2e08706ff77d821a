use Rattle.prep_cut.proofs.Heard.{excluded}
use Rattle.prep_cut.proofs.laws.strangers_stay.Goals as goal

pub returns : goal.returns
returns c = λ plan captured line block reason datagram are is found left. excluded plan captured line block reason datagram are is found left
