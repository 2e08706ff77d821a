use Rattle.audit_segments.proofs.Shifting.{shifted_segment}
use Rattle.audit_segments.proofs.laws.names_may_be_shifted.Goals as goal

pub returns : goal.returns
returns c policy key_for view base earlier old new steps k = shifted_segment base policy key_for view earlier old new steps k
