use Rattle.std.proofs.Common.{take}
use Rattle.std.specs.List.{flat_map}
use Rattle.audit_cert.specs.Spelling.{lane_lines}
use Rattle.audit_cert.specs.Writing.{Went}
use Rattle.audit_cert.proofs.writing.put_lanes.Given as goal

-- the lines so far went out
abbrev pub invariant-loop-lane : goal.invariant-loop-lane
invariant-loop-lane g l =
    Went (flat_map lane_lines (take l.lane-index l.lanes)) (record { taken = g.W.Sink.taken l.fn.out; taken_now = g.W.Sink.taken l.out; failures = g.W.Sink.failures l.fn.out; failures_now = g.W.Sink.failures l.out })
