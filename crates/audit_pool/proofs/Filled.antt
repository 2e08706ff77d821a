-- A book with as many entries as lanes has one finding for each lane.
use Rattle.std.proofs.Common.{◌≡◌, ℕ, List, length, ap, subst, ◌∙◌, inr}
use Rattle.audit_lane.specs.Content.{Content, Found}
use Rattle.audit_lane.specs.Concluded.{AllLanes}
use Rattle.audit_model.specs.declared.certificate.Certificate.{Certificate}
use Rattle.audit_model.specs.declared.verdict.Verdict.{Verdict}
use Rattle.audit_rules.specs.Keys.{KeyFor}
use Rattle.audit_sightings.specs.Intake.{Taken}
use Rattle.audit_verdict.specs.Verdicts.{IsVerdict}
use Rattle.audit_book.specs.Machine.{State}
use Rattle.audit_book.specs.Seats.{findings_of}
use Rattle.audit_book.proofs.Agree.{findings_zipped}
use Rattle.audit_book.proofs.Steps.{zipped_length}
use Rattle.audit_book.proofs.Folding.{lanes_entered, all_entered}
use Rattle.audit_pool.specs.Full.{IsFull, IsFullOf}

pub all_lanes : (job : List Content) (seats : ℕ) (claimants by : List ℕ) (founds : List Found) → IsFull job seats claimants by founds → AllLanes job founds
all_lanes job seats claimants by founds h =
    let s = h.filled.state in
    let k = h.filled.history in
    let same : findings_of s.entries ≡ founds = ap (λ (t : State). findings_of t.entries) k.is ∙ findings_zipped by founds k.befores k.seats_len k.befores_len in
    let len : length s.entries ≡ length job = ap (λ (t : State). length t.entries) k.is ∙ zipped_length by founds k.befores k.seats_len k.befores_len ∙ h.full in
    subst (λ (l : List Found). AllLanes job l) same (lanes_entered job seats s k.state (all_entered job seats s k.state len) len)

pub is_verdict : (taken : Taken) (key_for : KeyFor) (certificate : Certificate) (seats : ℕ) (claimants by : List ℕ) (founds : List Found) (verdict : Verdict) →
    IsFullOf taken key_for certificate seats claimants by founds verdict → IsVerdict taken key_for certificate verdict
is_verdict taken key_for certificate seats claimants by founds verdict h = inr (record {
  placed = h.placed;
  job = h.job;
  is_job = h.is_job;
  concluded = record { founds = founds; lanes = all_lanes h.job seats claimants by founds h.full; concludes = h.concludes };
})
