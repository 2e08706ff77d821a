-- The result of a run, from the bytes of its files to its report.
use Rattle.std.specs.Prelude.{◌≡◌, ℕ, List, Option, map}
use Rattle.audit_faults.specs.Shown.{AreFaults}
use Rattle.audit_files.specs.Judged.{AreRead}
use Rattle.audit_model.specs.Sink.{followed_by}
use Rattle.audit_rules.specs.Keys.{KeyFor}
use Rattle.audit_sightings.specs.Intake.{Taken}
use Rattle.explain_faults.specs.declared.reported.Reported.{Reported}
use Rattle.explain_faults.specs.FaultsText.{faults_text, status_of}

-- All faults that the captures show were written, with notes that the clause doesn't specify, and
-- the status is 1 if there are any.
pub record AreWritten (taken : Taken) (key_for : KeyFor) (before after : Option (List ℕ)) (status : ℕ) : Type 0 where
  pub faults : List Reported
  pub all : AreFaults taken key_for (map (λ reported. reported.shown) faults)
  pub first : List ℕ
  pub written : after ≡ followed_by before (faults_text taken first faults)
  pub are_written : status ≡ status_of faults

-- the same for the bytes of these files
pub record AreWrittenOf (policy users : List ℕ) (captures : List (List ℕ)) (before after : Option (List ℕ)) (status : ℕ) : Type 0 where
  pub taken : Taken
  pub key_for : KeyFor
  pub read : AreRead policy users captures taken key_for
  pub are_written : AreWritten taken key_for before after status
