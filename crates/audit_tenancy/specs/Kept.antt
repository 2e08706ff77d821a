-- The tenancies so far, by address and birth, reduced to two: of the newest address, the one that
-- is held longest, and the one that is held longest among the other lanes.
use Rattle.std.specs.Prelude.{◌≡◌, ◌≢◌, List, Option, Some, None, Contains, false}
use Rattle.std.specs.declared.cmp.Ordering.{Ordering}
use Rattle.std.specs.Ordering.{nat_cmp, ordering_then, is_gt}
use Rattle.audit_model.specs.declared.address.Addr.{Addr}
use Rattle.audit_model.specs.declared.verdict.Tenancy.{Tenancy}
use Rattle.audit_model.specs.Clash.{act_cmp, Clashes}
use Rattle.audit_tenancy.specs.Hold.{Outlasts}

abbrev pub addr_cmp : Addr → Addr → Ordering
addr_cmp one other = ordering_then (nat_cmp one.ip other.ip) (nat_cmp one.port other.port)

-- by address, then by birth
abbrev pub tenancy_cmp : Tenancy → Tenancy → Ordering
tenancy_cmp one other =
    ordering_then (addr_cmp one.relayed other.relayed) (act_cmp one.born.key one.born.lane other.born.key other.born.lane)

-- each of them comes before the new one, or ties with it
abbrev pub ComeBefore : List Tenancy → Tenancy → Type 0
ComeBefore earlier new = (one : Tenancy) → Contains earlier one → is_gt (tenancy_cmp one new) ≡ false

-- of those that have the property, one that outlasts each; none if there are none
abbrev pub IsLongest : (Tenancy → Type 0) → List Tenancy → Option Tenancy → Type 0
IsLongest Fact earlier None = (one : Tenancy) → Contains earlier one → ¬ Fact one
IsLongest Fact earlier (Some longest) =
    Contains earlier longest × Fact longest × ((one : Tenancy) → Contains earlier one → Fact one → Outlasts longest one)

abbrev pub Keeps : List Tenancy → Option Tenancy → Option Tenancy → Type 0
Keeps earlier None other = (one : Tenancy) → ¬ Contains earlier one
Keeps earlier (Some longest) other =
    ((one : Tenancy) → Contains earlier one → is_gt (addr_cmp one.relayed longest.relayed) ≡ false)
    × IsLongest (λ one. one.relayed ≡ longest.relayed) earlier (Some longest)
    × IsLongest (λ one. (one.relayed ≡ longest.relayed) × (one.born.lane ≢ longest.born.lane)) earlier other

-- some earlier one clashes with the new one
abbrev pub ClashesWithOne : List Tenancy → Tenancy → Type 0
ClashesWithOne earlier new = (held : Tenancy) × Contains earlier held × Clashes new held
