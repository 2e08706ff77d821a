use Rattle.std.proofs.Common.{◌-◌, ◌<◌, ◌≤◌, length}
use Rattle.std.specs.Prelude.{slice_index_or}
use Rattle.audit_model.specs.Window.{later}
use Rattle.audit_faults.proofs.reach.too_early.Given as goal

abbrev pub invariant-halves : goal.invariant-halves
invariant-halves l = record {
  order : l.low ≤ l.high;
  bound : l.high ≤ length l.latest;
  out : 0 < l.low → later (slice_index_or l.latest (l.low - 1) 0) l.hold < l.moment;
}

abbrev pub decreases-halves : goal.decreases-halves
decreases-halves l = l.high - l.low
