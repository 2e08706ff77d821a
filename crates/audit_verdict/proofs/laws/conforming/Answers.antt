use Rattle.audit_verdict.proofs.Joined.{conforming as so}
use Rattle.audit_verdict.proofs.laws.conforming.Goals as goal

pub returns : goal.returns
returns c = λ taken key_for certificate verdict numbered is. so taken numbered key_for certificate verdict is
