use Rattle.std.proofs.Common.{arith}
use Rattle.audit_faults.proofs.leases.earlier.Goals as goal

pub returns : goal.returns
returns c lo hi last narrow = omega (arith, last, narrow)
