use Rattle.std.proofs.Common.{◌-◌, ◌<◌, ◌≤◌, length}
use Rattle.std.specs.Prelude.{slice_index_or}
use Rattle.audit_faults.specs.declared.keyed.Keyed.{Keyed}
use Rattle.audit_faults.specs.Keyed.{number_of}
use Rattle.audit_faults.proofs.keyed.places_through.Given as goal

abbrev pub invariant-halves : goal.invariant-halves
invariant-halves l = record {
  order : l.low ≤ l.high;
  bound : l.high ≤ length l.keyed;
  above : (one : Keyed) → l.high < length l.keyed → l.bound < number_of (slice_index_or l.keyed l.high one);
}

abbrev pub decreases-halves : goal.decreases-halves
decreases-halves l = l.high - l.low
