use Rattle.audit_live.proofs.Remembering.{remembers_on}
use Rattle.audit_live.proofs.laws.steps_are_remembered.Goals as goal

pub returns : goal.returns
returns c = remembers_on
