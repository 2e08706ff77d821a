-- The verdict on an intake by a certificate.
use Rattle.std.specs.Prelude.{◌≡◌, ◌⊎◌, ℕ, List, All, Some, None, IsSomeAnd, length, slice_get}
use Rattle.audit_model.specs.Least.{IsLeast}
use Rattle.audit_model.specs.declared.certificate.CertLane.{CertLane}
use Rattle.audit_model.specs.declared.certificate.Certificate.{Certificate}
use Rattle.audit_model.specs.declared.verdict.Breach.{Breach}
use Rattle.audit_model.specs.declared.verdict.Verdict.{Verdict}
use Rattle.audit_model.specs.declared.verdict.Verdict.TheVariants.{Conforming, NotShown}
use Rattle.audit_lane.specs.Content.{Content}
use Rattle.audit_lane.specs.Concluded.{IsConcluded}
use Rattle.audit_lane.specs.Named.{IsInputOf}
use Rattle.audit_lane.specs.UserRows.{Tells}
use Rattle.audit_placement.specs.Shows.{Shows}
use Rattle.audit_rules.specs.Keys.{KeyFor}
use Rattle.audit_sightings.specs.ByInterface.{count_of}
use Rattle.audit_sightings.specs.Intake.{Taken}

-- the lane's events with their sightings, whose requests have the users that they name and that the
-- credentials have
pub record IsLaneInput (taken : Taken) (key_for : KeyFor) (number : ℕ) (lane : CertLane) (content : Content) : Type 0 where
  pub input : IsInputOf taken number lane content
  pub users : All (Tells key_for content.users) content.events

-- the job of a certificate's lanes: its i-th input is that of the i-th lane
pub record IsJobOf (taken : Taken) (key_for : KeyFor) (certificate : Certificate) (job : List Content) : Type 0 where
  pub lanes : length job ≡ length certificate.lanes
  pub each : (number : ℕ) (content : Content) → slice_get job number ≡ Some content →
      IsSomeAnd (slice_get certificate.lanes number) (λ lane. IsLaneInput taken key_for number lane content)

-- the verdict of the lanes, if placement has no breach
pub record IsOfLanes (taken : Taken) (key_for : KeyFor) (certificate : Certificate) (verdict : Verdict) : Type 0 where
  pub placed : IsLeast (Shows taken certificate) None
  pub job : List Content
  pub is_job : IsJobOf taken key_for certificate job
  pub concluded : IsConcluded job (count_of taken.interfaces) verdict

-- the least breach of placement, or the verdict of the lanes
abbrev pub IsVerdict : Taken → KeyFor → Certificate → Verdict → Type 0
IsVerdict taken key_for certificate verdict =
    ((breach : Breach) × IsLeast (Shows taken certificate) (Some breach) × (verdict ≡ NotShown breach)) ⊎ IsOfLanes taken key_for certificate verdict

-- no rule is broken
abbrev pub IsConforming : Verdict → Type 0
IsConforming (Conforming datagrams lanes) = Unit {0}
IsConforming (NotShown breach) = ⊥
