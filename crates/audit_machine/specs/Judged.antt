-- Up to which moment a machine has judged what was captured.
use Rattle.std.specs.Prelude.{ℕ, ◌≡◌, ◌≤◌, ◌<◌, true, false, Option, Some}
use Rattle.audit_model.specs.declared.sighting.SightId.{SightId}
use Rattle.audit_model.specs.declared.sighting.Sighting.{Sighting}
use Rattle.audit_model.specs.Window.{later}
use Rattle.audit_sightings.specs.Intake.{Taken, sighting_at}
use Rattle.audit_segments.specs.Alike.{is_placed}
use Rattle.audit_machine.specs.declared.machine.Machine.{Machine}
use Rattle.audit_machine.specs.Counts.{count_of}
use Rattle.audit_machine.specs.Times.{time_of}

-- each captured sighting whose window ends before the moment is placed, and each owed departure may
-- still leave at the moment
pub record IsJudgedBy (taken : Taken) (m : Machine) (moment : ℕ) : Type 0 where
  pub placed : (s : SightId) (x : Sighting) → sighting_at taken s ≡ Some x → x.hi < moment → is_placed (count_of m.placed) s ≡ true
  pub owed : (t : SightId) (came : ℕ) → time_of m.owed t ≡ Some came → moment ≤ later came m.policy.hold

-- a captured sighting that is not placed has a window that ends at the moment
abbrev pub IsOpenUntil : Taken → (ℕ → ℕ) → ℕ → Type 0
IsOpenUntil taken placed moment = (s : SightId) × (x : Sighting) × (sighting_at taken s ≡ Some x) × (is_placed placed s ≡ false) × (x.hi ≡ moment)

-- the hold after one of the moments ends at this moment
abbrev pub EndsAt : (SightId → Option ℕ) → ℕ → ℕ → Type 0
EndsAt times hold moment = (t : SightId) × (came : ℕ) × (times t ≡ Some came) × (later came hold ≡ moment)
