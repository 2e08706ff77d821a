use Rattle.std.proofs.Common.{◌≤◌, ◌-◌, length, take}
use Rattle.std.specs.List.{flat_map}
use Rattle.audit_cert.specs.Spelling.{drop_line}
use Rattle.audit_cert.specs.Writing.{Went}
use Rattle.audit_cert.proofs.writing.put_drops.Given as goal

-- the lines so far went out
abbrev pub invariant-rounds : goal.invariant-rounds
invariant-rounds g l = record {
  within : l.done ≤ length l.drops;
  went : Went (flat_map drop_line (take l.done l.drops)) (record { taken = g.W.Sink.taken l.fn.out; taken_now = g.W.Sink.taken l.out; failures = g.W.Sink.failures l.fn.out; failures_now = g.W.Sink.failures l.out });
}

abbrev pub decreases-rounds : goal.decreases-rounds
decreases-rounds g l = length l.drops - l.done
