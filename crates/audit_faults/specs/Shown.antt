-- All faults that captures show.
use Rattle.std.specs.Prelude.{◌≡◌, ◌⊎◌, ◌↔◌, ◌<◌, IsTrue, List, Option, None, Some, IfSome, Any}
use Rattle.std.specs.List.{All, AllPairs}
use Rattle.audit_model.specs.declared.sighting.SightId.{SightId}
use Rattle.audit_model.specs.declared.sighting.Sighting.{Sighting}
use Rattle.audit_sightings.specs.Intake.{Taken, sighting_at}
use Rattle.audit_rules.specs.Keys.{KeyFor}
use Rattle.audit_faults.specs.declared.fault.Fault.{Fault}
use Rattle.audit_faults.specs.declared.fault.Fault.TheVariants.{Unasked, Unallocated, Unpermitted, Unbound, Unfit, Unauthentic}
use Rattle.audit_faults.specs.declared.fault.Granted.{Granted}
use Rattle.audit_faults.specs.declared.fault.Granted.TheVariants.{Never, Later, Before}
use Rattle.audit_faults.specs.declared.fault.ShownFault.{ShownFault}
use Rattle.audit_faults.specs.Beginning.{WasBegun, HasBeginning}
use Rattle.audit_faults.specs.Explains.{IsFault, NoneBefore}
use Rattle.audit_faults.specs.LastGrant.{IsTooEarly}

-- the order of interface and index
abbrev pub IsBefore : SightId → SightId → Type 0
IsBefore one other = (one.iface < other.iface) ⊎ ((one.iface ≡ other.iface) × (one.index < other.index))

-- the departure lacked a lease
abbrev pub IsOfLease : Fault → Type 0
IsOfLease Unasked = ⊥
IsOfLease Unallocated = Unit {0}
IsOfLease Unpermitted = Unit {0}
IsOfLease Unbound = Unit {0}
IsOfLease Unfit = ⊥
IsOfLease Unauthentic = ⊥

-- the departure lacked a lease, and no captured Allocate success response granted its relayed
-- address before it to a client whose datagram may have caused it: the captures began too late
abbrev pub MayPredate : Taken → Fault → SightId → Type 0
MayPredate taken fault sight = IsOfLease fault × ((departure : Sighting) → sighting_at taken sight ≡ Some departure → HasBeginning taken departure → ⊥)

-- when a client whose datagram may have caused it was granted what it lacked: never in the
-- captures; only by a request after the departure; by one that may have come before it
abbrev pub IsWhen : Taken → Fault → Sighting → Granted → Type 0
IsWhen taken fault departure Never = WasBegun taken fault 18446744073709551615 departure → ⊥
IsWhen taken fault departure Later = WasBegun taken fault 18446744073709551615 departure × (WasBegun taken fault departure.hi departure → ⊥)
IsWhen taken fault departure Before = WasBegun taken fault departure.hi departure

-- a time of the grant is reported if the departure lacked a lease
abbrev pub ReportsWhen : Taken → Fault → SightId → Option Granted → Type 0
ReportsWhen taken fault sight None = IsOfLease fault → ⊥
ReportsWhen taken fault sight (Some granted) = IsOfLease fault × ((departure : Sighting) → sighting_at taken sight ≡ Some departure → IsWhen taken fault departure granted)

module _ (taken : Taken) (key_for : KeyFor) where
  -- the departure shows this fault and none that ranks before it; the record says whether the
  -- captures began too late, and when the missing lease was granted; if it names a success
  -- response, that one granted the lease, which had expired
  abbrev pub IsFirstFault : ShownFault → Type 0
  IsFirstFault shown = IsFault taken key_for shown.fault shown.sight × NoneBefore (λ earlier. IsFault taken key_for earlier shown.sight) shown.fault × (IsTrue shown.may_predate ↔ MayPredate taken shown.fault shown.sight)
      × ReportsWhen taken shown.fault shown.sight shown.granted × IfSome shown.last (IsTooEarly taken shown.fault shown.sight)

  -- All shown faults: for each departure that shows one the first, in rising order, and so once.
  pub record AreFaults (faults : List ShownFault) : Type 0 where
    pub each : All IsFirstFault faults
    pub every : (fault : Fault) (sight : SightId) → IsFault taken key_for fault sight → Any (λ shown. shown.sight ≡ sight) faults
    pub rising : AllPairs (λ one other. IsBefore one.sight other.sight) faults

  -- The shown faults of the sightings before one.
  pub record AreFaultsBefore (bound : SightId) (faults : List ShownFault) : Type 0 where
    pub each : All IsFirstFault faults
    pub every : (fault : Fault) (sight : SightId) → IsBefore sight bound → IsFault taken key_for fault sight → Any (λ shown. shown.sight ≡ sight) faults
    pub rising : AllPairs (λ one other. IsBefore one.sight other.sight) faults
    pub before : All (λ shown. IsBefore shown.sight bound) faults
