-- The window of a stamp: the moments within the skew of it, among the numbers of 64 bits.
use Rattle.std.specs.Prelude.{ℕ, ◌+◌, ◌-◌, ◌^◌, min}

-- sums of moments and lengths of time are at most the greatest number
abbrev pub later : ℕ → ℕ → ℕ
later moment time = min (moment + time) (2 ^ 64 - 1)

abbrev pub first_moment : ℕ → ℕ → ℕ
first_moment stamp skew = stamp - skew

abbrev pub last_moment : ℕ → ℕ → ℕ
last_moment stamp skew = later stamp skew
