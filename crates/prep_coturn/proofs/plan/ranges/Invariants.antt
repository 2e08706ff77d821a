use Rattle.std.proofs.Common.{◌≡◌, map, take}
use Rattle.prep_coturn.specs.Plans.{range_at}
use Rattle.prep_coturn.proofs.plan.ranges.Given as goal

abbrev pub invariant-loop-wire : goal.invariant-loop-wire
invariant-loop-wire l = l.ranges.items ≡ map (range_at l.conf l.relaying) (take l.wire-index l.relaying)
