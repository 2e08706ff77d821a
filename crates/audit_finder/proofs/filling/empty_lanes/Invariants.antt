use Rattle.std.proofs.Common.{◌≡◌, take, map}
use Rattle.audit_finder.specs.Found.{empty_lane}
use Rattle.audit_finder.proofs.filling.empty_lanes.Given as goal

abbrev pub invariant-loop-client : goal.invariant-loop-client
invariant-loop-client l = l.lanes.items ≡ map empty_lane (take l.client-index l.pairs)
