use Rattle.std.proofs.Common.{refl}
use Rattle.audit_segments.proofs.Keeping.{keeps}
use Rattle.audit_segments.proofs.laws.kept_state_is_enough.Goals as goal

pub returns-clause-segment : goal.returns-clause-segment
returns-clause-segment c policy key_for view old new steps sent_owed one = keeps policy key_for view old new steps one sent_owed

pub returns-clause-sent_owed : goal.returns-clause-sent_owed
returns-clause-sent_owed c hold grace placed st t h = refl
