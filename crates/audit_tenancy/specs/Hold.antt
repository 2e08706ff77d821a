-- How long a tenancy keeps its address.
use Rattle.std.specs.Prelude.{◌≡◌, ◌⊎◌, ℕ, Option, Some, None, nat_le, if◌then◌else◌}
use Rattle.audit_model.specs.declared.event.Key.{Key}
use Rattle.audit_model.specs.declared.verdict.Tenancy.{Tenancy}
use Rattle.audit_model.specs.Clash.{StillHeld}

-- a stop that is no later than the last moment
abbrev pub stop_within : Option Key → ℕ → Option Key
stop_within None last = None
stop_within (Some stop) last = if nat_le stop.moment last then Some stop else None

-- whenever the other one is still held, this one is
abbrev pub Outlasts : Tenancy → Tenancy → Type 0
Outlasts one other = (key : Key) (lane : ℕ) → StillHeld other key lane → StillHeld one key lane

-- one of the two that outlasts both
abbrev pub IsLongerOf : Tenancy → Tenancy → Tenancy → Type 0
IsLongerOf one other longer = ((longer ≡ one) ⊎ (longer ≡ other)) × Outlasts longer one × Outlasts longer other
