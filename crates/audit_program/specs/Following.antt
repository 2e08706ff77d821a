-- The invariant of an audit while it follows the captures.
use Rattle.std.specs.Prelude.{◌≡◌, ◌≢◌, ◌<◌, [], ℕ, List, Option, None, Some, Ok, IfSome, length, vec_len}
use Rattle.audit_files.specs.Judged.{AreUsers}
use Rattle.audit_keys.specs.KeyFor.{key_for}
use Rattle.audit_model.specs.PolicyText.{policy_of}
use Rattle.audit_model.specs.declared.policy.Policy.{Policy}
use Rattle.audit_model.specs.declared.sighting.Sighting.{Sighting}
use Rattle.audit_model.specs.declared.verdict.Breach.{Breach}
use Rattle.audit_prefix.specs.Breaches.{LiveBreach}
use Rattle.audit_sightings.specs.declared.fault.IntakeFault.{IntakeFault}
use Rattle.audit_sightings.specs.declared.intake.Intake.{Intake}
use Rattle.audit_sightings.specs.Files.{Fed, Refuses, StandsFor, fed_at, with_piece}
use Rattle.audit_sightings.specs.Intake.{taken}
use Rattle.audit_live.specs.declared.cause.Cause.TheVariants.{Broke, Refused}
use Rattle.audit_live.specs.Audit.{Audit}
use Rattle.audit_program.specs.declared.live.Turn.{Turn}
use Rattle.audit_program.specs.declared.live.Turn.TheVariants as turns

-- each file was fed the bytes that were read of it, as far as these are known
abbrev pub WereFed : (ℕ → Option (List ℕ)) → List Fed → Type 0
WereFed bytes_read files = (file : ℕ) → file < length files → IfSome (bytes_read file) (λ bytes. (fed_at files file).text ≡ bytes)

-- the intake has the bytes that were read of the captures
pub record TookIn (bytes_read : ℕ → Option (List ℕ)) (intake : Intake) : Type 0 where
  pub files : List Fed
  pub stands : StandsFor intake files
  pub were_fed : WereFed bytes_read files

-- no bytes were refused
abbrev pub NoneRefused : Audit → Type 0
NoneRefused live = (fault : IntakeFault) → live.ended ≢ Some (Refused fault)

-- Bytes of a capture were refused. These were fed of each capture before, and then came this piece,
-- which shows the capture's first fault.
pub record WereRefused (bytes_read : ℕ → Option (List ℕ)) (policy : Policy) (fault : IntakeFault) : Type 0 where
  pub before : List Fed
  pub piece : List ℕ
  pub interfaces : List (List Sighting)
  pub refuses : Refuses policy interfaces before fault.file piece fault.kind
  pub were_fed : WereFed bytes_read (with_piece before fault.file piece [])

-- bytes that ended it were refused so
abbrev pub ShowsItsRefusal : (ℕ → Option (List ℕ)) → Audit → Type 0
ShowsItsRefusal bytes_read live = (fault : IntakeFault) → live.ended ≡ Some (Refused fault) → WereRefused bytes_read live.intake.policy fault

-- a breach that ended it is one of the certificate
abbrev pub ShowsItsBreach : Audit → Type 0
ShowsItsBreach live = (breach : Breach) → live.ended ≡ Some (Broke breach) → LiveBreach (taken live.intake) (key_for live.credentials) live.front.placing.certificate (Some breach)

-- It has the policy and the users of two texts, and this number of captures; a breach that ended it
-- is one of its certificate; and unless bytes were refused its intake has all bytes that were read.
pub record Follows (policy users : List ℕ) (count : ℕ) (bytes_read : ℕ → Option (List ℕ)) (live : Audit) : Type 0 where
  pub policy' : policy_of policy ≡ Ok live.intake.policy
  pub users' : AreUsers users (key_for live.credentials)
  pub count' : vec_len live.intake.files ≡ count
  pub shows : ShowsItsBreach live
  pub took : NoneRefused live → TookIn bytes_read live.intake
  pub refused : ShowsItsRefusal bytes_read live

-- and it hasn't ended
abbrev pub Goes : List ℕ → List ℕ → ℕ → (ℕ → Option (List ℕ)) → Audit → Type 0
Goes policy users count bytes_read live = (live.ended ≡ None) × Follows policy users count bytes_read live

-- it may have ended only if something was refused
abbrev pub LeftBy : Turn → List ℕ → List ℕ → ℕ → (ℕ → Option (List ℕ)) → Audit → Type 0
LeftBy turns.Fed policy users count bytes_read live = Goes policy users count bytes_read live
LeftBy turns.Quiet policy users count bytes_read live = Goes policy users count bytes_read live
LeftBy turns.Refused policy users count bytes_read live = Follows policy users count bytes_read live
