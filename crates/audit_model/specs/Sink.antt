-- The bytes that a sink has written, and how often it failed. None claims nothing, and stays so.
use Rattle.std.specs.Prelude.{◌≡◌, ℕ, zero, suc, ◌+◌, ◌≤◌, List, ◌++◌, length, take, Result, Ok, Err, Option, option_map}

-- the bytes, and these after them
abbrev pub followed_by : Option (List ℕ) → List ℕ → Option (List ℕ)
followed_by taken bytes = option_map (λ before. before ++ bytes) taken

-- the number, and this number more
abbrev pub raised_by : Option ℕ → ℕ → Option ℕ
raised_by failures more = option_map (λ n. n + more) failures

-- whether a call failed: an error, or nothing written of a piece that isn't empty
abbrev pub failures_of : {E : Type 0} → Result ℕ E → ℕ → ℕ
failures_of (Err e) given = 1
failures_of (Ok (suc n)) given = 0
failures_of (Ok zero) zero = 0
failures_of (Ok zero) (suc n) = 1

-- after is before and then a prefix of the bytes
abbrev pub IsFollowedByFront : Option (List ℕ) → List ℕ → Option (List ℕ) → Type 0
IsFollowedByFront before bytes after = (n : ℕ) × (n ≤ length bytes) × (after ≡ followed_by before (take n bytes))
