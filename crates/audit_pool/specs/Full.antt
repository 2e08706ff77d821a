-- A closed book of a job, and one with each lane.
use Rattle.std.specs.Prelude.{◌≡◌, ℕ, List, None, length}
use Rattle.audit_model.specs.Least.{IsLeast}
use Rattle.audit_model.specs.declared.certificate.Certificate.{Certificate}
use Rattle.audit_model.specs.declared.verdict.Verdict.{Verdict}
use Rattle.audit_lane.specs.Content.{Content, Found}
use Rattle.audit_lane.specs.Concluded.{ConcludesTo}
use Rattle.audit_placement.specs.Shows.{Shows}
use Rattle.audit_rules.specs.Keys.{KeyFor}
use Rattle.audit_sightings.specs.ByInterface.{count_of}
use Rattle.audit_sightings.specs.Intake.{Taken}
use Rattle.audit_book.specs.Machine.{State}
use Rattle.audit_book.specs.Seats.{IsHistory}
use Rattle.audit_verdict.specs.Verdicts.{IsJobOf}

-- the claimants, and the entries with the seat of each, of a state that a book of that many seats
-- may have
pub record IsHistoryOf (job : List Content) (seats : ℕ) (claimants by : List ℕ) (founds : List Found) : Type 0 where
  pub state : State
  pub history : IsHistory job seats state claimants by founds

-- with an entry for each lane
pub record IsFull (job : List Content) (workers : ℕ) (claimants by : List ℕ) (founds : List Found) : Type 0 where
  pub filled : IsHistoryOf job workers claimants by founds
  pub full : length founds ≡ length job

-- a full book of the job of a certificate whose placement has no breach, whose entries have the
-- verdict
pub record IsFullOf (taken : Taken) (key_for : KeyFor) (certificate : Certificate) (workers : ℕ) (claimants by : List ℕ) (founds : List Found) (verdict : Verdict) : Type 0 where
  pub placed : IsLeast (Shows taken certificate) None
  pub job : List Content
  pub is_job : IsJobOf taken key_for certificate job
  pub full : IsFull job workers claimants by founds
  pub concludes : ConcludesTo (count_of taken.interfaces) founds verdict
