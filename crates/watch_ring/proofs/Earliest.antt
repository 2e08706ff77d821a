-- The earliest of the files so far.
use Rattle.std.proofs.Common.{◌≡◌, ℕ, ◌<◌, ◌≤◌, List, Option, Some, None, get_or}
use Rattle.watch_ring.specs.declared.ring_file.RingFile.{RingFile}
use Rattle.watch_ring.specs.Order.{place, IsAfter}

-- of the files below an index
pub record FoundBelow (n : ℕ) (files : List RingFile) (current file : RingFile) : Type 0 where
  pub listed : (k : ℕ) × (k < n) × (get_or files k file ≡ file)
  pub after : IsAfter current file
  pub least : (k : ℕ) (d : RingFile) → k < n → IsAfter current (get_or files k d) → place current file ≤ place current (get_or files k d)

abbrev pub EarliestBelow : ℕ → List RingFile → RingFile → Option RingFile → Type 0
EarliestBelow n files current None = (k : ℕ) (d : RingFile) → k < n → ¬ IsAfter current (get_or files k d)
EarliestBelow n files current (Some file) = FoundBelow n files current file
