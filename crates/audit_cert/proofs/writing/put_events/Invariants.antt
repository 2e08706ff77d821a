use Rattle.std.proofs.Common.{take}
use Rattle.std.specs.List.{flat_map}
use Rattle.audit_cert.specs.Spelling.{event_line}
use Rattle.audit_cert.specs.Writing.{Went}
use Rattle.audit_cert.proofs.writing.put_events.Given as goal

-- the lines so far went out
abbrev pub invariant-loop-event : goal.invariant-loop-event
invariant-loop-event g l =
    Went (flat_map event_line (take l.event-index l.events)) (record { taken = g.W.Sink.taken l.fn.out; taken_now = g.W.Sink.taken l.out; failures = g.W.Sink.failures l.fn.out; failures_now = g.W.Sink.failures l.out })
