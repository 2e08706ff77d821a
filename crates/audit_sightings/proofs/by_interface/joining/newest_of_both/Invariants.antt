use Rattle.std.proofs.Common.{◌≡◌, ◌<◌, ◌≤◌, ℕ, None, length}
use Rattle.std.specs.Prelude.{slice_index_or}
use Rattle.audit_sightings.proofs.by_interface.joining.newest_of_both.Given as goal

-- the one's moments so far, and the other's from there on
abbrev pub invariant-files : goal.invariant-files
invariant-files l = record {
  long : length l.newest ≡ 16;
  below : (n : ℕ) → n < l.n → slice_index_or l.newest n None ≡ slice_index_or l.one n None;
  behind : (n : ℕ) → l.n ≤ n → slice_index_or l.newest n None ≡ slice_index_or l.other n None;
}
