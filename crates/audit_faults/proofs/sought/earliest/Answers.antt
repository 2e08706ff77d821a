use Rattle.std.proofs.Common.{arith}
use Rattle.audit_faults.proofs.sought.earliest.Goals as goal

pub returns : goal.returns
returns c lo hi near narrow = omega (arith, near, narrow)
