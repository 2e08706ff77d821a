-- The result of a request: the bytes on standard output and on standard error, and the exit status.
use Rattle.std.specs.Prelude.{◌≡◌, ◌⊎◌, ◌==◌, ◌||◌, true, ℕ, List, Option, Ok, Err, Result, IfOk, OnOk, string_bytes}
use Rattle.audit_model.specs.Sink.{followed_by}
use Rattle.clap.specs.Words.{Text, fault_of, subcommand_of}
use Rattle.prep_program.specs.declared.command_line.Request.{Request}
use Rattle.prep_program.specs.declared.command_line.Request.TheVariants.{Join, Policy, Look, Cut, Translate, Reassemble, Users, Ready, Help, Release, Usage}
use Rattle.prep_program.specs.declared.stop.Stop.{Stop}
use Rattle.prep_program.specs.CutStatus.{EndsByKept}
use Rattle.prep_program.specs.Pages.{page_text, release_text}
use Rattle.prep_program.specs.Requests.{IsRequested}
use Rattle.prep_program.specs.Stops.{status_of_stop}
use Rattle.prep_program.specs.Words.{turnprep}

-- The bytes of standard output and of standard error, before and after.
pub record Streams : Type 0 where
  pub before : Option (List ℕ)
  pub after : Option (List ℕ)
  pub said_before : Option (List ℕ)
  pub said_after : Option (List ℕ)

-- nothing was written to standard error
abbrev pub IsSilent : Streams → Type 0
IsSilent streams = streams.said_after ≡ streams.said_before

-- a command that was done has status 0
abbrev pub IsSuccess : Result ℕ Stop → Type 0
IsSuccess done = IfOk done (λ status. status ≡ 0)

-- `ready` has status 0, or status 6 if it keeps no datagram
abbrev pub IsReady : Result ℕ Stop → Type 0
IsReady done = IfOk done (λ status. ((status == 0) || (status == 6)) ≡ true)

-- `cut` has status 6 and a line on standard error if it kept no datagram, and else status 0 and no
-- line. A help page, or the line of the release, goes to standard output alone, and a usage error
-- to standard error alone, with status 5. The contract of each command's function says which files
-- it makes; commands without standard error leave it unchanged.
abbrev pub Answers : Streams → Request → Result ℕ Stop → Type 0
Answers streams (Join captures file) done = IsSilent streams × IsSuccess done
Answers streams (Look request) done = IsSilent streams × IsSuccess done
Answers streams (Translate request) done = IsSuccess done
Answers streams (Reassemble request) done = IsSilent streams × IsSuccess done
Answers streams (Policy file listening relaying translated) done = IsSuccess done
Answers streams (Users request) done = IsSuccess done
Answers streams (Ready request) done = IsReady done
Answers streams (Cut request) done = IfOk done (λ status. (kept : ℕ) × EndsByKept kept status streams.said_before streams.said_after)
Answers streams (Help page) done = IsSilent streams × IfOk done (λ status. (status ≡ 0) × (streams.after ≡ followed_by streams.before (page_text page)))
Answers streams Release done = IsSilent streams × IfOk done (λ status. (status ≡ 0) × (streams.after ≡ followed_by streams.before release_text))
Answers streams (Usage text) done = (streams.after ≡ streams.before) × IfOk done (λ status. (status ≡ 5) × (streams.said_after ≡ followed_by streams.said_before (string_bytes text)))

-- the exit status of an answer, or of what stopped it
abbrev pub status_of_run : Result ℕ Stop → ℕ
status_of_run (Ok status) = status
status_of_run (Err stop) = status_of_stop stop

-- The arguments are the request, and it was answered; a line about the failure may follow on
-- standard error. Or there was no memory for the arguments.
abbrev pub IsRun : List Text → Streams → ℕ → Type 0
IsRun words streams status =
    ((request : Request) × IsRequested (subcommand_of turnprep words) (fault_of turnprep words) request × (done : Result ℕ Stop) × (said : Option (List ℕ)) × Answers (record streams { said_after = said }) request done
    × (status ≡ status_of_run done) × OnOk done (streams.said_after ≡ said))
    ⊎ ((streams.after ≡ streams.before) × (status ≡ 3))
