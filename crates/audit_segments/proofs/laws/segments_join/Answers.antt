use Rattle.audit_segments.proofs.Joining.{joined}
use Rattle.audit_segments.proofs.Rules.{ignore_past_grace}
use Rattle.audit_segments.proofs.laws.segments_join.Goals as goal

pub returns : goal.returns
returns c policy key_for view a b d front rest one other = joined policy key_for view (ignore_past_grace policy key_for view) a b d front rest one other
