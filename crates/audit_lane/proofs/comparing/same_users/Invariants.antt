use Rattle.std.proofs.Common.{◌≡◌, map, take}
use Rattle.audit_lane.specs.Content.{user_of}
use Rattle.audit_lane.proofs.comparing.same_users.Given as goal

abbrev pub invariant-loop-i : goal.invariant-loop-i
invariant-loop-i l = map user_of (take l.i l.one) ≡ map user_of (take l.i l.other)
