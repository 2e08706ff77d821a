use Rattle.std.proofs.Common.{◌≡◌, ℕ, ◌+◌, ◌<◌, ◌≤◌, length}
use Rattle.std.specs.Prelude.{slice_index_or}
use Rattle.audit_model.specs.declared.sighting.Sighting.{Sighting}
use Rattle.audit_faults.specs.Reach.{StandsAt}
use Rattle.audit_faults.proofs.reach.earliest_of.Given as goal

-- the same of the places so far
abbrev pub invariant-places : goal.invariant-places
invariant-places l = record {
  size : length l.earliest.items ≡ l.from_end;
  least : (j : ℕ) (s : Sighting) → length l.row ≤ j + l.from_end → StandsAt l.row j s → l.least ≤ s.lo;
  covers : (j k : ℕ) (s : Sighting) → length l.row ≤ j + k + 1 → k < l.from_end → StandsAt l.row j s → slice_index_or l.earliest.items k 0 ≤ s.lo;
}
