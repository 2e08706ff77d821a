-- When a progress line is drawn. Times are milliseconds.
use Rattle.std.specs.Prelude.{◌+◌, ◌&&◌, ℕ, Bool, true, nat_le, Option, Some, None}

-- it wasn't drawn for at least a tenth of a second
abbrev pub is_stale : Option ℕ → ℕ → Bool
is_stale None now = true
is_stale (Some drawn) now = nat_le (drawn + 100) now

-- the work has taken at least a second, and the line is redrawn at most ten times a second
abbrev pub is_due : ℕ → Option ℕ → ℕ → Bool
is_due began drawn now = nat_le (began + 1000) now && is_stale drawn now
