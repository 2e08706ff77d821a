use Rattle.std.proofs.Common.{◌≡◌, map, take}
use Rattle.audit_lane.specs.Content.{happening}
use Rattle.audit_lane.proofs.comparing.same_events.Given as goal

abbrev pub invariant-loop-i : goal.invariant-loop-i
invariant-loop-i l = map happening (take l.i l.one) ≡ map happening (take l.i l.other)
