-- When a lease that ends at a moment may be used, and when it is gone (RFC 8656, sections 6, 9 and
-- 12). Between its end and its end plus the grace it is both.
use Rattle.std.specs.Prelude.{ℕ, Bool, not, ◌||◌, ◌≤◌, ◌<◌, nat_le, nat_lt}
use Rattle.audit_model.specs.Window.{later}

abbrev pub IsUsable : ℕ → ℕ → ℕ → Type 0
IsUsable until moment grace = moment ≤ later until grace

abbrev pub IsGone : ℕ → ℕ → Type 0
IsGone until moment = until < moment

-- the two definitions above as tests
abbrev pub is_usable : ℕ → ℕ → ℕ → Bool
is_usable until moment grace = nat_le moment (later until grace)

abbrev pub is_gone : ℕ → ℕ → Bool
is_gone until moment = nat_lt until moment

-- it isn't past the grace
abbrev pub lasts : ℕ → ℕ → ℕ → Bool
lasts until moment grace = not (is_gone until moment) || is_usable until moment grace
