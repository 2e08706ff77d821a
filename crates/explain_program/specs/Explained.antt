-- The result of the command `verdict`, from the bytes of its files to the start of its answer.
use Rattle.std.specs.Prelude.{◌≡◌, ◌⊎◌, ◌++◌, ◌∷◌, [], ℕ, List, Option, Some, None, codes, decimal}
use Rattle.audit_model.specs.declared.certificate.Certificate.{Certificate}
use Rattle.audit_model.specs.declared.verdict.Verdict.{Verdict}
use Rattle.audit_model.specs.declared.verdict.Verdict.TheVariants.{Conforming, NotShown}
use Rattle.explain_program.specs.declared.command_line.Subject.{Subject}
use Rattle.explain_program.specs.declared.command_line.Subject.TheVariants.{Verdict as OfVerdict, Lanes, Client}
use Rattle.audit_model.specs.Sink.{followed_by}
use Rattle.audit_files.specs.Judged.{AreRead, Judges, status_of}
use Rattle.audit_keys.specs.KeyFor.{key_for}
use Rattle.audit_report.specs.RuleText.{text_of_rule}
use Rattle.audit_rules.specs.Keys.{KeyFor}
use Rattle.audit_sightings.specs.Intake.{Taken, taken}
use Rattle.explain_json.specs.Answered.{IsAnswer}
use Rattle.explain_program.specs.declared.judged.Judged.{Judged}

-- the verdict in a few words, with which the answer begins
abbrev pub head_text : Verdict → List ℕ
head_text (Conforming datagrams lanes) = codes "conforming  " ++ (decimal datagrams ++ (codes " datagrams, " ++ (decimal lanes ++ codes " lanes")))
head_text (NotShown breach) = codes "not shown  " ++ text_of_rule breach.rule

-- the verdict is that of the certificate on the files that were read
abbrev pub IsByItsCertificate : Judged → Type 0
IsByItsCertificate judged = Judges (taken judged.files.intake) (key_for judged.files.users) judged.certificate judged.verdict

-- the percentage that a command expects
abbrev pub expected_by : Subject → Option ℕ
expected_by (OfVerdict percent) = percent
expected_by (Lanes broken) = None
expected_by (Client number events) = None

-- the exit status is by the verdict; if a percentage is expected, captures that conform may have 6
abbrev pub IsStatus : Option ℕ → Verdict → ℕ → Type 0
IsStatus None verdict status = status ≡ status_of verdict
IsStatus (Some percent) verdict status = (status ≡ status_of verdict) ⊎ ((status ≡ 6) × (status_of verdict ≡ 0))

-- The verdict by the certificate on the bytes of these files was printed: the answer begins with
-- it, and the status repeats it.
pub record IsExplained (percent : Option ℕ) (policy users : List ℕ) (captures : List (List ℕ)) (certificate : Certificate) (before after : Option (List ℕ)) (status : ℕ) : Type 0 where
  pub taken : Taken
  pub key_for : KeyFor
  pub read : AreRead policy users captures taken key_for
  pub verdict : Verdict
  pub judges : Judges taken key_for certificate verdict
  pub rest : List ℕ
  pub written : after ≡ followed_by before (head_text verdict ++ rest)
  pub status_is : IsStatus percent verdict status

-- after the earlier output follows a line of JSON with this verdict
pub record IsJsonBehind (verdict : Verdict) (before after : Option (List ℕ)) : Type 0 where
  pub text : List ℕ
  pub answer : IsAnswer verdict text
  pub written : after ≡ followed_by before (text ++ 10 ∷ [])

-- The same for an answer in JSON: its members `verdict` and `rule` are those of the verdict.
pub record IsWrittenAsJson (percent : Option ℕ) (policy users : List ℕ) (captures : List (List ℕ)) (certificate : Certificate) (before after : Option (List ℕ)) (status : ℕ) : Type 0 where
  pub taken : Taken
  pub key_for : KeyFor
  pub read : AreRead policy users captures taken key_for
  pub verdict : Verdict
  pub judges : Judges taken key_for certificate verdict
  pub written : IsJsonBehind verdict before after
  pub status_is : IsStatus percent verdict status
