-- The result of a request, from the bytes of its files to the output and the status.
use Rattle.std.specs.Prelude.{◌≡◌, ◌⊎◌, ℕ, List, [], Option, Some, None, Ok, Err, Result, IfNone, IfOk, IfSome, OnOk, string_bytes}
use Rattle.std.specs.List.{AllZip}
use Rattle.audit_model.specs.declared.certificate.Certificate.{Certificate}
use Rattle.audit_model.specs.Sink.{followed_by}
use Rattle.clap.specs.Words.{Text, fault_of, subcommand_of}
use Rattle.explain_faults.specs.Written.{AreWrittenOf}
use Rattle.explain_program.specs.declared.command_line.Inputs.{Inputs}
use Rattle.explain_program.specs.declared.command_line.Request.{Request}
use Rattle.explain_program.specs.declared.command_line.Request.TheVariants.{Explain, AsJson, Faults, Evidence, Help, Release, Usage}
use Rattle.explain_program.specs.declared.run_error.RunError.{RunError}
use Rattle.explain_program.specs.Errors.{status_of_error}
use Rattle.explain_program.specs.Explained.{IsExplained, IsWrittenAsJson, expected_by}
use Rattle.explain_program.specs.Pages.{page_text, release_text}
use Rattle.explain_program.specs.Words.{IsRequested, turnexplain}

-- The named policy, users and captures have these texts; if no users are named, there are none.
pub record HaveTexts (holds : List ℕ → Option (List ℕ)) (inputs : Inputs) (policy users : List ℕ) (captures : List (List ℕ)) : Type 0 where
  pub policy' : holds inputs.policy.now ≡ Some policy
  pub users' : IfSome inputs.credentials (λ name. holds name.now ≡ Some users)
  pub nobody : IfNone inputs.credentials (users ≡ [])
  pub captures' : AllZip (λ name text. holds name.now ≡ Some text) inputs.captures.items captures

-- The bytes of standard output and of standard error, before and after.
pub record Streams : Type 0 where
  pub before : Option (List ℕ)
  pub after : Option (List ℕ)
  pub said_before : Option (List ℕ)
  pub said_after : Option (List ℕ)

-- nothing was written to standard error
abbrev pub IsSilent : Streams → Type 0
IsSilent streams = streams.said_after ≡ streams.said_before

module _ (holds : List ℕ → Option (List ℕ)) (streams : Streams) where
  -- An answer begins with the verdict by a certificate, or is JSON that contains it; `faults`
  -- prints what the captures show; `evidence` prints the verdict of its page. A help page, or the
  -- line of the release, goes to standard output alone, and a usage error to standard error alone,
  -- with status 5.
  abbrev pub Answers : Request → Result ℕ RunError → Type 0
  Answers (Explain inputs subject) done =
      IsSilent streams × ((policy users : List ℕ) (captures : List (List ℕ)) → HaveTexts holds inputs policy users captures →
      IfOk done (λ status. (by : Certificate) × IsExplained (expected_by subject) policy users captures by streams.before streams.after status))
  Answers (AsJson inputs subject) done =
      IsSilent streams × ((policy users : List ℕ) (captures : List (List ℕ)) → HaveTexts holds inputs policy users captures →
      IfOk done (λ status. (by : Certificate) × IsWrittenAsJson (expected_by subject) policy users captures by streams.before streams.after status))
  Answers (Faults inputs) done =
      IsSilent streams × ((policy users : List ℕ) (captures : List (List ℕ)) → HaveTexts holds inputs policy users captures →
      IfOk done (AreWrittenOf policy users captures streams.before streams.after))
  Answers (Evidence inputs file list) done =
      IsSilent streams × ((policy users : List ℕ) (captures : List (List ℕ)) → HaveTexts holds inputs policy users captures →
      IfOk done (λ status. (by : Certificate) × IsExplained None policy users captures by streams.before streams.after status))
  Answers (Help page) done = IsSilent streams × IfOk done (λ status. (status ≡ 0) × (streams.after ≡ followed_by streams.before (page_text page)))
  Answers Release done = IsSilent streams × IfOk done (λ status. (status ≡ 0) × (streams.after ≡ followed_by streams.before release_text))
  Answers (Usage text) done = (streams.after ≡ streams.before) × IfOk done (λ status. (status ≡ 5) × (streams.said_after ≡ followed_by streams.said_before (string_bytes text)))

-- the exit status of an answer, or of a failure
abbrev pub status_given : Result ℕ RunError → ℕ
status_given (Ok status) = status
status_given (Err error) = status_of_error error

-- The arguments are the request, and it was answered; a line about a failure may follow on standard
-- error. Or there was no memory for the arguments.
abbrev pub IsRun : List Text → (List ℕ → Option (List ℕ)) → Streams → ℕ → Type 0
IsRun words holds streams status =
    ((request : Request) × IsRequested (subcommand_of turnexplain words) (fault_of turnexplain words) request × (done : Result ℕ RunError) × (said : Option (List ℕ)) × Answers holds (record streams { said_after = said }) request done
    × (status ≡ status_given done) × OnOk done (streams.said_after ≡ said))
    ⊎ ((streams.after ≡ streams.before) × (status ≡ 3))
