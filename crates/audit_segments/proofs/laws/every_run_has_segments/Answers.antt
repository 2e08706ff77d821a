use Rattle.std.proofs.Common.{refl}
use Rattle.audit_segments.proofs.Cutting.{between, complete_after}
use Rattle.audit_segments.proofs.laws.every_run_has_segments.Goals as goal

pub returns-clause-between : goal.returns-clause-between
returns-clause-between c taken key_for front segment rest r = between taken key_for front segment rest r

pub returns-clause-start : goal.returns-clause-start
returns-clause-start c taken key_for = refl

pub returns-clause-complete : goal.returns-clause-complete
returns-clause-complete c taken key_for steps r = complete_after taken key_for steps r
