use Rattle.std.proofs.Common.{[]}
use Rattle.audit_segments.proofs.Claiming.{whole_of, no_steps}
use Rattle.audit_segments.proofs.laws.many_segments_are_one.Goals as goal

pub returns : goal.returns
returns c policy key_for all first last segments k = whole_of policy key_for all segments first first last [] (no_steps policy key_for all first) k
