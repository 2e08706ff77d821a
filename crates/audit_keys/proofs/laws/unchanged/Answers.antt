use Rattle.audit_keys.proofs.Before.{signed_before, signed_still, authentic_before, authentic_still}
use Rattle.audit_keys.proofs.laws.unchanged.Goals as goal

pub returns-clause-signed : goal.returns-clause-signed
returns-clause-signed c = λ message key lacks. (signed_before message key lacks, signed_still message key lacks)

pub returns-clause-authentic : goal.returns-clause-authentic
returns-clause-authentic c = λ find message user lacks. (authentic_before find message user lacks, authentic_still find message user lacks)
