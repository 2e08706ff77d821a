use Rattle.std.proofs.Common.{arith}
use Rattle.audit_faults.proofs.Repeating.{one_block}
use Rattle.audit_faults.proofs.repeat_blocks.joined.Goals as goal

pub returns-clause-joined : goal.returns-clause-joined
returns-clause-joined c taken places place some before block = one_block taken places _ _ _ _ _ _ place some before block c.min.result c.min-2.result (omega (arith, c.min.ensures)) (omega (arith, c.min.ensures)) (omega (arith, c.min-2.ensures)) (omega (arith, c.min-2.ensures))
