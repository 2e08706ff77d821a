use Rattle.std.proofs.Common.{◌≤◌, ◌-◌, length, take}
use Rattle.std.specs.List.{flat_map}
use Rattle.audit_cert.specs.Pieces.{piece_text}
use Rattle.audit_cert.specs.Writing.{Went}
use Rattle.audit_cert.proofs.parallel.put_pieces.Given as goal

-- the pieces so far went out
abbrev pub invariant-rounds : goal.invariant-rounds
invariant-rounds g l = record {
  within : l.done ≤ length l.pieces;
  went : Went (flat_map piece_text (take l.done l.pieces)) (record { taken = g.W.Sink.taken l.fn.out; taken_now = g.W.Sink.taken l.out; failures = g.W.Sink.failures l.fn.out; failures_now = g.W.Sink.failures l.out });
}

abbrev pub decreases-rounds : goal.decreases-rounds
decreases-rounds g l = length l.pieces - l.done
