-- Two clients that hold one relayed address at once. A relayed address is unique across all
-- allocations (RFC 8656, section 6).
use Rattle.std.specs.Prelude.{◌≡◌, ◌≢◌, ◌≤◌, ℕ, List, IfSome, Contains}
use Rattle.std.specs.declared.cmp.Ordering.{Ordering}
use Rattle.std.specs.declared.cmp.Ordering.TheVariants.{Less}
use Rattle.std.specs.Ordering.{nat_cmp, ordering_then}
use Rattle.audit_model.specs.declared.event.Key.{Key}
use Rattle.audit_model.specs.declared.rule.Rule.TheVariants.{AddressHeld}
use Rattle.audit_model.specs.declared.verdict.Breach.{Breach}
use Rattle.audit_model.specs.declared.verdict.Tenancy.{Tenancy}
use Rattle.audit_model.specs.Breach.{key_cmp}

-- the order of the acts of all lanes: by key, then by lane
abbrev pub act_cmp : Key → ℕ → Key → ℕ → Ordering
act_cmp key lane other_key other_lane = ordering_then (key_cmp key other_key) (nat_cmp lane other_lane)

abbrev pub Precedes : Key → ℕ → Key → ℕ → Type 0
Precedes key lane other_key other_lane = act_cmp key lane other_key other_lane ≡ Less

-- at the act of this key and lane the tenancy still has its address: its last moment hasn't passed,
-- and it wasn't stopped before
abbrev pub StillHeld : Tenancy → Key → ℕ → Type 0
StillHeld held key lane = (key.moment ≤ held.last) × IfSome held.stopped (λ stop. ¬ Precedes stop held.born.lane key lane)

-- an allocation was granted an address that a client of another lane holds
pub record Clashes (new held : Tenancy) : Type 0 where
  pub same_address : held.relayed ≡ new.relayed
  pub other_lane : held.born.lane ≢ new.born.lane
  pub born_before : Precedes held.born.key held.born.lane new.born.key new.born.lane
  pub still_held : StillHeld held new.born.key new.born.lane

-- the breach is at the act that made the new one
abbrev pub breach_of : Tenancy → Breach
breach_of new = record { at = new.born; sight = new.sight; rule = AddressHeld; phase = 3 }

-- the breaches that some tenancies show
abbrev pub ShowsClash : List Tenancy → Breach → Type 0
ShowsClash tenancies breach =
    (new : Tenancy) × (held : Tenancy) × Contains tenancies new × Contains tenancies held × Clashes new held × (breach ≡ breach_of new)
