-- A piece of a file's bytes.
use Rattle.std.specs.Prelude.{◌≡◌, ◌<◌, ◌≤◌, ℕ, List, length, take, drop}

-- a buffer begins with that many of the bytes from an offset on, and with none only if no more are
-- left or it has no room
pub record IsPieceAt (bytes : List ℕ) (at count : ℕ) (into : List ℕ) : Type 0 where
  pub same : take count into ≡ take count (drop at bytes)
  pub last : count ≡ 0 → 0 < length into → length bytes ≤ at
