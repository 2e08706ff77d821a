use Rattle.audit_whole.proofs.Unasked.{unasked}
use Rattle.audit_whole.proofs.laws.nothing_leaves_unasked.Goals as goal

pub returns : goal.returns
returns c = unasked
