use Rattle.std.proofs.Common.{◌≡◌, ◌-◌, ◌≤◌, length, take}
use Rattle.audit_model.specs.Sink.{followed_by}
use Rattle.audit_model.proofs.sink.put_all.Given as goal

-- a front of the bytes is taken
abbrev pub invariant-loop-done : goal.invariant-loop-done
invariant-loop-done g l = record {
  within : l.done ≤ length l.bytes;
  taken : g.W.Sink.taken l.sink ≡ followed_by (g.W.Sink.taken l.fn.sink) (take l.done l.bytes);
  kept : g.W.Sink.failures l.sink ≡ g.W.Sink.failures l.fn.sink;
}

abbrev pub decreases-loop-done : goal.decreases-loop-done
decreases-loop-done g l = length l.bytes - l.done
