use Rattle.audit_files.proofs.Audited.{audited_relayed}
use Rattle.audit_files.proofs.laws.all_that_left_was_relayed.Goals as goal

pub returns : goal.returns
returns c policy users captures certificate before after audited = audited_relayed policy users captures certificate before after audited
