use Rattle.std.proofs.Common.{◌-◌, ◌<◌}
use Rattle.audit_sights.proofs.rising.start.Given as goal

abbrev pub invariant-doubling : goal.invariant-doubling
invariant-doubling g l = 0 < l.back

abbrev pub decreases-doubling : goal.decreases-doubling
decreases-doubling g l = l.len - l.back
