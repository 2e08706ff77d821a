-- Values by index, as a list of pairs of an index and a value.
use Rattle.std.specs.Prelude.{◌≡◌, ◌≢◌, ◌<◌, ◌≤◌, ℕ, List, Option, length, slice_index, nat_eq}
use Rattle.std.specs.Map.{lookup, keys_of}

module _ {V : Type 0} where
  -- the value of the first pair that has the index
  abbrev pub value_at : List (ℕ × V) → ℕ → Option V
  value_at pairs index = lookup (nat_eq index) pairs

  -- the index of the pair at place i
  abbrev pub index_at : List (ℕ × V) → ℕ → ℕ
  index_at pairs i = slice_index (keys_of pairs) i

  -- each index is below those after it
  abbrev pub Rises : List (ℕ × V) → Type 0
  Rises pairs = (i j : ℕ) → i < j → j < length pairs → index_at pairs i < index_at pairs j

  -- a pair with the index can only be from `low` on and before `high`
  abbrev pub IsWithin : List (ℕ × V) → ℕ → ℕ → ℕ → Type 0
  IsWithin pairs index low high = (k : ℕ) → k < length pairs → index_at pairs k ≡ index → (low ≤ k) × (k < high)

  -- the pair at that place has the index
  abbrev pub IsAt : List (ℕ × V) → ℕ → ℕ → Type 0
  IsAt pairs index place = (place < length pairs) × (index_at pairs place ≡ index)

  -- no pair has the index
  abbrev pub IsNowhere : List (ℕ × V) → ℕ → Type 0
  IsNowhere pairs index = (k : ℕ) → k < length pairs → index_at pairs k ≢ index

  -- the index is past that of each pair
  abbrev pub IsPast : List (ℕ × V) → ℕ → Type 0
  IsPast pairs index = (k : ℕ) → k < length pairs → index_at pairs k < index
