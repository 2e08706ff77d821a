use Rattle.audit_prefix.proofs.NoneLater.{none_later}
use Rattle.audit_prefix.proofs.laws.no_breach_later.Goals as goal

pub returns : goal.returns
returns c = none_later
