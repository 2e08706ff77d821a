-- The result of the command `live`, from the bytes that were read of its captures to its report.
use Rattle.std.specs.Prelude.{◌≡◌, ◌<◌, ◌↔◌, ◌⊎◌, ℕ, Bool, List, Option, Some, Ok, Err, length}
use Rattle.std.proofs.Common.{Bor}
use Rattle.audit_files.specs.declared.stop.Stop.{Stop}
use Rattle.audit_files.specs.declared.stop.Stop.TheVariants.{Memory, Read}
use Rattle.audit_files.specs.Ends.{EndsBy}
use Rattle.audit_files.specs.Judged.{AreUsers, status_of}
use Rattle.audit_files.specs.Stops.{EndsByIntake}
use Rattle.audit_live.specs.declared.fault.LiveEnd.{LiveEnd}
use Rattle.audit_live.specs.declared.fault.LiveEnd.TheVariants as ends
use Rattle.audit_model.specs.declared.certificate.Certificate.{Certificate}
use Rattle.audit_model.specs.declared.policy.Policy.{Policy}
use Rattle.audit_model.specs.declared.verdict.Breach.{Breach}
use Rattle.audit_model.specs.declared.verdict.Verdict.{Verdict}
use Rattle.audit_model.specs.declared.verdict.Verdict.TheVariants.{NotShown}
use Rattle.audit_model.specs.PolicyText.{policy_of}
use Rattle.audit_model.specs.Sink.{followed_by}
use Rattle.audit_prefix.specs.Breaches.{LiveBreach}
use Rattle.audit_report.specs.ReportText.{report_text}
use Rattle.audit_rules.specs.Keys.{KeyFor}
use Rattle.audit_sightings.specs.declared.fault.IntakeFault.{IntakeFault}
use Rattle.audit_sightings.specs.declared.fault.IntakeFaultKind.TheVariants.{Limit}
use Rattle.audit_sightings.specs.declared.intake.Intake.{Intake}
use Rattle.audit_sightings.specs.Files.{FilesEnd, MayEnd, fed_at}
use Rattle.audit_sightings.specs.Intake.{taken}
use Rattle.audit_verdict.specs.Verdicts.{IsConforming, IsVerdict}
use Rattle.audit_whole.specs.CaptureRun.{rules_for}
use Rattle.audit_whole.specs.Conforms.{Conforms}
use Rattle.audit_whole.specs.Headline.{Headline}
use Rattle.audit_program.specs.declared.command_line.Turns.{Turns}
use Rattle.audit_program.specs.Following.{TookIn, WereRefused}
use Rattle.audit_program.specs.Reads.{AreReadOut}

-- The captures were read out; each ended after a whole block; and this is the verdict by the
-- certificate: conforming exactly if that explains the sightings by one run of the server.
pub record AtTheEnd (turns : Turns) (bytes_read reads : ℕ → Option (List ℕ)) (intake : Intake) (key_for : KeyFor) (certificate : Certificate) (verdict : Verdict) : Type 0 where
  pub took : TookIn bytes_read intake
  pub read_out : AreReadOut turns (taken intake).files reads
  pub ended : (file : ℕ) → file < length took.files → MayEnd (fed_at took.files file)
  pub is : IsVerdict (taken intake) key_for certificate verdict
  pub conforming : IsConforming verdict ↔ Conforms (taken intake) (rules_for (taken intake) key_for) certificate

-- A turn broke a rule. Sightings without an event and departures that haven't left were no breach
-- yet.
pub record OnTheWay (bytes_read : ℕ → Option (List ℕ)) (intake : Intake) (key_for : KeyFor) (certificate : Certificate) (verdict : Verdict) : Type 0 where
  pub took : TookIn bytes_read intake
  pub breach : Breach
  pub is : verdict ≡ NotShown breach
  pub shows : LiveBreach (taken intake) key_for certificate (Some breach)

abbrev pub IsReportedOf : Turns → (ℕ → Option (List ℕ)) → (ℕ → Option (List ℕ)) → Intake → KeyFor → Certificate → Verdict → Type 0
IsReportedOf turns bytes_read reads intake key_for certificate verdict = AtTheEnd turns bytes_read reads intake key_for certificate verdict ⊎ OnTheWay bytes_read intake key_for certificate verdict

-- The policy and the users are those of two texts, these bytes were read of the captures, and the
-- verdict that the status repeats was reported. If it conforms, the headline holds.
pub record IsWatched (policy users : List ℕ) (captures : ℕ) (turns : Turns) (bytes_read reads : ℕ → Option (List ℕ)) (certificate : Certificate) (before after : Option (List ℕ)) (status : ℕ) : Type 0 where
  pub intake : Intake
  pub key_for : KeyFor
  pub verdict : Verdict
  pub policy' : policy_of policy ≡ Ok intake.policy
  pub users' : AreUsers users key_for
  pub captures' : (taken intake).files ≡ captures
  pub is : IsReportedOf turns bytes_read reads intake key_for certificate verdict
  pub headline : IsConforming verdict → Headline (taken intake) key_for certificate
  pub written : after ≡ followed_by before (report_text verdict (taken intake))
  pub reported : status ≡ status_of verdict

-- no bytes of the captures were refused, and this is the first that ends inside a block, or has
-- none
pub record MayNotEnd (bytes_read : ℕ → Option (List ℕ)) (policy : Policy) (fault : IntakeFault) : Type 0 where
  pub intake : Intake
  pub policy' : intake.policy ≡ policy
  pub took : TookIn bytes_read intake
  pub ends : FilesEnd (Err fault) took.files

-- a capture is refused: for the first fault of the bytes that were read of it; because it is the
-- 17th; or for how it ends
abbrev pub IsCaptureFault : ℕ → (ℕ → Option (List ℕ)) → Policy → IntakeFault → Type 0
IsCaptureFault captures bytes_read policy fault = WereRefused bytes_read policy fault ⊎ (((fault ≡ record { kind = Limit; file = 16 }) × (16 < captures)) ⊎ MayNotEnd bytes_read policy fault)

-- what ends an audit without a verdict
abbrev pub EndsLiveBy : ℕ → (ℕ → Option (List ℕ)) → Policy → LiveEnd → Type 0
EndsLiveBy captures bytes_read policy (ends.Input fault) = IsCaptureFault captures bytes_read policy fault
EndsLiveBy captures bytes_read policy ends.Memory = Unit {0}

-- an audit that ends without a verdict ends the run so
abbrev pub EndsByLive : LiveEnd → Stop → Type 0
EndsByLive (ends.Input fault) stop = EndsByIntake fault stop
EndsByLive ends.Memory stop = stop ≡ Memory

-- what ends the captures' turns: exhausted memory, a capture that can't be read, or one that is
-- refused
abbrev pub EndsTurns : ℕ → (ℕ → Option (List ℕ)) → Policy → Stop → Type 0
EndsTurns captures bytes_read policy stop = (stop ≡ Memory) ⊎ ((stop ≡ Read) ⊎ ((fault : IntakeFault) × EndsByIntake fault stop × IsCaptureFault captures bytes_read policy fault))

-- what ends `live`: its policy, its users, or its captures
abbrev pub EndsLive : (List ℕ → Bool) → List ℕ → List ℕ → Option (Bor (List ℕ)) → List ℕ → ℕ → (ℕ → Option (List ℕ)) → Stop → Type 0
EndsLive may_fail policy_name policy users_name users captures bytes_read stop =
    EndsBy may_fail policy_name policy users_name users (λ p s. EndsTurns captures bytes_read p s) stop
