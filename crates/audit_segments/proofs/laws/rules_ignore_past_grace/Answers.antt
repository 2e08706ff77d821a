use Rattle.audit_segments.proofs.Rules.{ignore_past_grace}
use Rattle.audit_segments.proofs.laws.rules_ignore_past_grace.Goals as goal

pub returns : goal.returns
returns c policy key_for view = ignore_past_grace policy key_for view
