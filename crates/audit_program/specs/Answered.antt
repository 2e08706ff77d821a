-- The result of a request, from the bytes of its files to what is written and the status.
use Rattle.std.specs.Prelude.{◌≡◌, ◌⊎◌, ℕ, Bool, List, [], Option, Some, Ok, Err, Result, IfNone, IfSome, MatchResult, OnOk, length, string_bytes}
use Rattle.std.specs.List.{AllZip}
use Rattle.audit_cert.specs.CertText.{cert_of}
use Rattle.audit_cert.specs.Spelling.{said_by, spelling}
use Rattle.audit_files.specs.declared.stop.Stop.{Stop}
use Rattle.audit_files.specs.Ends.{EndsCheck, EndsFiles, EndsWriting}
use Rattle.audit_files.specs.Judged.{AreRead, IsAudited}
use Rattle.audit_files.specs.Stops.{status_of_stop}
use Rattle.audit_model.specs.declared.certificate.Certificate.{Certificate}
use Rattle.audit_model.specs.Sink.{followed_by}
use Rattle.audit_rules.specs.Keys.{KeyFor}
use Rattle.audit_sightings.specs.Intake.{Taken}
use Rattle.audit_program.specs.declared.command_line.Inputs.{Inputs}
use Rattle.audit_program.specs.declared.command_line.Request.{Request}
use Rattle.audit_program.specs.declared.command_line.Request.TheVariants.{Check, Audit, Find, Live, Help, Release, Usage}
use Rattle.audit_program.specs.Pages.{page_text, release_text}
use Rattle.audit_program.specs.Watched.{EndsLive, IsWatched}
use Rattle.audit_program.specs.Words.{IsRequested, turnaudit}
use Rattle.clap.specs.Words.{Text, fault_of, subcommand_of}

-- the policy and the users that are named have these texts; if no users are named there are none
pub record HaveTexts (holds : List ℕ → Option (List ℕ)) (inputs : Inputs) (policy users : List ℕ) : Type 0 where
  pub policy' : holds inputs.policy.now ≡ Some policy
  pub users' : IfSome inputs.credentials (λ name. holds name.now ≡ Some users)
  pub nobody : IfNone inputs.credentials (users ≡ [])

abbrev pub HaveCaptures : (List ℕ → Option (List ℕ)) → Inputs → List (List ℕ) → Type 0
HaveCaptures holds inputs texts = AllZip (λ name text. holds name.now ≡ Some text) inputs.captures.items texts

-- The bytes of standard output and of standard error, before and after.
pub record Streams : Type 0 where
  pub before : Option (List ℕ)
  pub after : Option (List ℕ)
  pub said_before : Option (List ℕ)
  pub said_after : Option (List ℕ)

-- How often writing to standard output and to standard error had failed, before and after.
pub record Failures : Type 0 where
  pub before : Option ℕ
  pub after : Option ℕ
  pub said_before : Option ℕ
  pub said_after : Option ℕ

-- nothing was written to standard error
abbrev pub IsSilent : Streams → Type 0
IsSilent streams = streams.said_after ≡ streams.said_before

-- The finder's certificate for the captures in these files' bytes was written, by its one spelling.
pub record IsWritten (finds : Taken → Certificate → Type 0) (policy users : List ℕ) (captures : List (List ℕ)) (before after : Option (List ℕ)) (status : ℕ) : Type 0 where
  pub taken : Taken
  pub key_for : KeyFor
  pub read : AreRead policy users captures taken key_for
  pub certificate : Certificate
  pub found : finds taken certificate
  pub written : after ≡ followed_by before (spelling (said_by certificate))
  pub reported : status ≡ 0

module _ (holds : List ℕ → Option (List ℕ)) (may_fail : List ℕ → Bool) (bytes_read reads : ℕ → Option (List ℕ)) (finds : Taken → Certificate → Type 0) (streams : Streams) (failures : Failures) where
  -- what ends a command before its answer: the first of its files that can't be read or is refused,
  -- in their order, or standard output
  abbrev pub EndsRequest : (Stop → Type 0) → Stop → Type 0
  EndsRequest Ends stop = Ends stop ⊎ EndsWriting failures.before failures.after stop

  -- Each command has its own answer: `check` reports the verdict by the certificate that is named,
  -- `audit` by one that is found, `live` that on the bytes that were read of the captures; `find`
  -- writes what is found by its one spelling; a page of help, or the line of the release, goes to
  -- standard output alone, and a usage error to standard error alone, with status 5. What ends a
  -- command before that is a fault of its files, the first in their order, or of its outputs.
  abbrev pub Answers : Request → Result ℕ Stop → Type 0
  Answers (Check inputs certificate workers) done =
      IsSilent streams × ((policy users text : List ℕ) (captures : List (List ℕ)) → HaveTexts holds inputs policy users → HaveCaptures holds inputs captures → holds certificate.now ≡ Some text →
      MatchResult done (λ status. (written : Certificate) × (cert_of text ≡ Ok (said_by written)) × IsAudited policy users captures written streams.before streams.after status)
      (EndsRequest (EndsCheck may_fail inputs.policy.now policy inputs.credentials users certificate.now text inputs.captures.items captures)))
  Answers (Audit inputs workers) done =
      IsSilent streams × ((policy users : List ℕ) (captures : List (List ℕ)) → HaveTexts holds inputs policy users → HaveCaptures holds inputs captures →
      MatchResult done (λ status. (found : Certificate) × IsAudited policy users captures found streams.before streams.after status)
      (EndsRequest (EndsFiles may_fail inputs.policy.now policy inputs.credentials users inputs.captures.items captures)))
  Answers (Find inputs workers) done =
      IsSilent streams × ((policy users : List ℕ) (captures : List (List ℕ)) → HaveTexts holds inputs policy users → HaveCaptures holds inputs captures →
      MatchResult done (IsWritten finds policy users captures streams.before streams.after)
      (EndsRequest (EndsFiles may_fail inputs.policy.now policy inputs.credentials users inputs.captures.items captures)))
  Answers (Live inputs turns) done =
      IsSilent streams × ((policy users : List ℕ) → HaveTexts holds inputs policy users →
      MatchResult done (λ status. (found : Certificate) × IsWatched policy users (length inputs.captures.items) turns bytes_read reads found streams.before streams.after status)
      (EndsRequest (EndsLive may_fail inputs.policy.now policy inputs.credentials users (length inputs.captures.items) bytes_read)))
  Answers (Help page) done =
      IsSilent streams × MatchResult done (λ status. (status ≡ 0) × (streams.after ≡ followed_by streams.before (page_text page))) (EndsWriting failures.before failures.after)
  Answers Release done =
      IsSilent streams × MatchResult done (λ status. (status ≡ 0) × (streams.after ≡ followed_by streams.before release_text)) (EndsWriting failures.before failures.after)
  Answers (Usage text) done =
      (streams.after ≡ streams.before) × MatchResult done (λ status. (status ≡ 5) × (streams.said_after ≡ followed_by streams.said_before (string_bytes text))) (EndsWriting failures.said_before failures.said_after)

-- the exit status of an answer, or of its failure
abbrev pub status_of_answer : Result ℕ Stop → ℕ
status_of_answer (Ok status) = status
status_of_answer (Err stop) = status_of_stop stop

-- The request is that of the arguments, and was answered; a line about the failure may follow on
-- standard error. Or memory ran out for the arguments.
abbrev pub IsRun : List Text → (List ℕ → Option (List ℕ)) → (List ℕ → Bool) → (ℕ → Option (List ℕ)) → (ℕ → Option (List ℕ)) → (Taken → Certificate → Type 0) → Streams → Option ℕ → Option ℕ → Option ℕ → ℕ → Type 0
IsRun words holds may_fail bytes_read reads finds streams before after said_before status =
    ((request : Request) × IsRequested (subcommand_of turnaudit words) (fault_of turnaudit words) request × (done : Result ℕ Stop) × (said : Option (List ℕ)) × (said_after : Option ℕ)
    × Answers holds may_fail bytes_read reads finds (record streams { said_after = said }) (record { before = before; after = after; said_before = said_before; said_after = said_after }) request done
    × (status ≡ status_of_answer done) × OnOk done (streams.said_after ≡ said))
    ⊎ ((streams.after ≡ streams.before) × (status ≡ 3))
