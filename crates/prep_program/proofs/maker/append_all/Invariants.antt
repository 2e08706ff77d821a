use Rattle.std.proofs.Common.{◌≡◌, ◌-◌, ◌≤◌, length, take}
use Rattle.audit_model.specs.Sink.{followed_by}
use Rattle.prep_program.proofs.maker.append_all.Given as goal

-- a front of the bytes is taken
abbrev pub invariant-loop-done : goal.invariant-loop-done
invariant-loop-done g l = record {
  within : l.done ≤ length l.bytes;
  taken : g.M.Sink.taken l.maker ≡ followed_by (g.M.Sink.taken l.fn.maker) (take l.done l.bytes);
  others : g.M.Maker.making l.maker ≡ g.M.Maker.making l.fn.maker;
}

abbrev pub decreases-loop-done : goal.decreases-loop-done
decreases-loop-done g l = length l.bytes - l.done
