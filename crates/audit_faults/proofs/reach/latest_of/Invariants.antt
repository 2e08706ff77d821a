use Rattle.std.proofs.Common.{◌≡◌, ℕ, ◌<◌, ◌≤◌, length}
use Rattle.std.specs.Prelude.{slice_index_or}
use Rattle.audit_model.specs.declared.sighting.Sighting.{Sighting}
use Rattle.audit_faults.proofs.reach.latest_of.Given as goal

-- the same of the places so far
abbrev pub invariant-places : goal.invariant-places
invariant-places l = record {
  size : length l.latest.items ≡ l.sighting-index;
  greatest : (j : ℕ) (s : Sighting) → j < l.sighting-index → slice_index_or l.row j s ≡ s → s.hi ≤ l.greatest;
  covers : (j k : ℕ) (s : Sighting) → j ≤ k → k < l.sighting-index → slice_index_or l.row j s ≡ s → s.hi ≤ slice_index_or l.latest.items k 0;
}
