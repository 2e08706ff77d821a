use Rattle.std.proofs.Common.{◌-◌, ◌<◌, ◌≤◌, length}
use Rattle.std.specs.Prelude.{slice_index_or}
use Rattle.audit_faults.specs.declared.keyed.Keyed.{Keyed}
use Rattle.audit_faults.specs.Keyed.{number_of}
use Rattle.audit_faults.proofs.keyed.places_below.Given as goal

abbrev pub invariant-halves : goal.invariant-halves
invariant-halves l = record {
  order : l.low ≤ l.high;
  bound : l.high ≤ length l.keyed;
  below : (one : Keyed) → 0 < l.low → number_of (slice_index_or l.keyed (l.low - 1) one) < l.bound;
}

abbrev pub decreases-halves : goal.decreases-halves
decreases-halves l = l.high - l.low
