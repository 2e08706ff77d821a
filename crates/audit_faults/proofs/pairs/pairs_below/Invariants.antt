use Rattle.std.proofs.Common.{◌-◌, ◌<◌, ◌≤◌, length}
use Rattle.std.specs.Prelude.{slice_index_or}
use Rattle.audit_faults.proofs.pairs.pairs_below.Given as goal

abbrev pub invariant-halves : goal.invariant-halves
invariant-halves l = record {
  order : l.low ≤ l.high;
  bound : l.high ≤ length l.pairs;
  below : 0 < l.low → slice_index_or l.pairs (l.low - 1) 0 < l.bound;
  above : l.high < length l.pairs → l.bound ≤ slice_index_or l.pairs l.high 0;
}

abbrev pub decreases-halves : goal.decreases-halves
decreases-halves l = l.high - l.low
