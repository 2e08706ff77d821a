-- The moment up to which the certificate of captures that grow is found in a turn.
use Rattle.std.specs.Prelude.{◌≡◌, ◌<◌, ◌≤◌, ◌-◌, ◌⊎◌, ℕ, min, Option, Some, None, IfNone, IfSome, IsSomeAnd}
use Rattle.audit_sightings.specs.Intake.{Taken}
use Rattle.audit_sightings.specs.Newest.{IsNewest}
use Rattle.audit_program.specs.declared.live.Turn.{Turn}
use Rattle.audit_program.specs.declared.live.Turn.TheVariants as turns

-- each of this number of captures has a sighting, and the newest of each may have come from that
-- moment on, or later
abbrev pub EachIsNewer : Taken → ℕ → ℕ → Type 0
EachIsNewer taken captures moment = (file : ℕ) → file < captures → (newest : ℕ) × IsNewest taken.interfaces file (Some newest) × (moment ≤ newest)

-- the newest sighting of one of them may have come from that moment on
abbrev pub OneIsFrom : Taken → ℕ → Option ℕ → Type 0
OneIsFrom taken captures moment = (file : ℕ) × (file < captures) × IsNewest taken.interfaces file moment

-- The least of those moments over this number of captures; none if one of them has no sighting, or
-- there is no capture.
pub record IsEarliestOf (taken : Taken) (captures : ℕ) (earliest : Option ℕ) : Type 0 where
  pub each : IfSome earliest (EachIsNewer taken captures)
  pub one : IfSome earliest (λ moment. OneIsFrom taken captures (Some moment))
  pub none : IfNone earliest ((captures ≡ 0) ⊎ OneIsFrom taken captures None)

abbrev pub IsEarliest : Taken → Option ℕ → Type 0
IsEarliest taken earliest = IsEarliestOf taken taken.files earliest

-- The next horizon is that moment minus the hold, at least 0. There is none if a capture has no
-- sighting, or if that isn't past the last horizon.
pub record IsHorizon (taken : Taken) (last found : Option ℕ) : Type 0 where
  pub earliest : Option ℕ
  pub is : IsEarliest taken earliest
  pub some : IfSome found (λ horizon. IsSomeAnd earliest (λ moment. horizon ≡ moment - taken.policy.hold) × IfSome last (λ before. before < horizon))
  pub none : IfNone found (IfSome earliest (λ moment. IsSomeAnd last (λ before. moment - taken.policy.hold ≤ before)))

-- the new horizon, or the last one if there is no new one
abbrev pub or_last : Option ℕ → Option ℕ → Option ℕ
or_last None last = last
or_last (Some horizon) last = Some horizon

-- Bytes are followed by an advance to the next horizon, if there is one; without bytes there is no
-- advance.
abbrev pub IsTurned : Turn → Taken → Option ℕ → Option ℕ → Type 0
IsTurned turns.Fed taken last new = (found : Option ℕ) × IsHorizon taken last found × (new ≡ or_last found last)
IsTurned turns.Quiet taken last new = new ≡ last
IsTurned turns.Refused taken last new = Unit {0}

-- the sooner of two moments, if there is a first
abbrev pub sooner_of : Option ℕ → ℕ → Option ℕ
sooner_of None moment = Some moment
sooner_of (Some before) moment = Some (min before moment)
