use Rattle.std.proofs.Common.{◌≤◌, ◌-◌, length}
use Rattle.audit_pool.proofs.inputs.places.Given as goal

abbrev pub invariant-lanes : goal.invariant-lanes
invariant-lanes l = length l.places.items ≤ l.fn.lanes

abbrev pub decreases-lanes : goal.decreases-lanes
decreases-lanes l = l.fn.lanes - length l.places.items
