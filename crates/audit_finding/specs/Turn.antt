-- The moments of a turn's events.
use Rattle.std.specs.Prelude.{ℕ, ◌<◌, ◌≤◌, All, Option, IfSome}
use Rattle.audit_model.specs.Event.{key_of}
use Rattle.audit_model.specs.declared.extension.Extension.{Extension}

-- after the last horizon, if there was one, and no later than the new one
abbrev pub IsInside : Option ℕ → ℕ → ℕ → Type 0
IsInside last horizon moment = IfSome last (λ l. l < moment) × (moment ≤ horizon)

-- the same for each event and each drop
abbrev pub StandInside : Option ℕ → ℕ → Extension → Type 0
StandInside last horizon extension =
    All (λ e. IsInside last horizon (key_of e.1).moment) extension.events × All (λ d. IsInside last horizon d.key.moment) extension.drops
