use Rattle.audit_pcapng.proofs.OptionSpelling.{options_spelled}
use Rattle.audit_pcapng.proofs.laws.options_as_spelled.Goals as goal

pub returns : goal.returns
returns c = options_spelled
