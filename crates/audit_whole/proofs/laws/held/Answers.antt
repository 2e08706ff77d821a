use Rattle.audit_whole.proofs.Held.{held as held_at}
use Rattle.audit_whole.proofs.laws.held.Goals as goal

pub returns : goal.returns
returns c = held_at
