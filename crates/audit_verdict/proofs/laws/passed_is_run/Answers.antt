use Rattle.audit_verdict.proofs.RunWhole.{passed_is_run as so}
use Rattle.audit_verdict.proofs.laws.passed_is_run.Goals as goal

pub returns : goal.returns
returns c = so
