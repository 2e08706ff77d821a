use Rattle.audit_segments.proofs.Claiming.{excludes_more}
use Rattle.audit_segments.proofs.laws.more_may_be_excluded.Goals as goal

pub returns : goal.returns
returns c policy key_for view old excluded state go k = excludes_more policy key_for view old excluded state go k
