-- A job that grows lane by lane.
use Rattle.std.proofs.Common.{◌≡◌, ◌<◌, ◌+◌, ℕ, zero, suc, List, [], ◌∷◌, ◌++◌, length, get_or, Some, sym, ◌∙◌, subst, inl, inr, arith, length-append}
use Rattle.std.specs.Prelude.{IsSomeAnd, slice_get}
use Rattle.audit_model.specs.declared.certificate.CertLane.{CertLane}
use Rattle.audit_rules.specs.Keys.{KeyFor}
use Rattle.audit_sightings.specs.Intake.{Taken}
use Rattle.audit_lane.specs.Content.{Content}
use Rattle.audit_lane.proofs.Lists.{get_push}
use Rattle.audit_verdict.specs.Verdicts.{IsLaneInput}

-- the inputs of the lanes below a number
pub record IsJobTo (taken : Taken) (key_for : KeyFor) (lanes : List CertLane) (number : ℕ) (job : List Content) : Type 0 where
  pub all : length job ≡ number
  pub each : (i : ℕ) (content : Content) → slice_get job i ≡ Some content → IsSomeAnd (slice_get lanes i) (λ lane. IsLaneInput taken key_for i lane content)

there : (P : CertLane → Type 0) (lanes : List CertLane) (i : ℕ) (d : CertLane) → i < length lanes → P (get_or lanes i d) → IsSomeAnd (slice_get lanes i) P
there P [] i d lt holds = absurd (omega (arith, lt))
there P (lane ∷ lanes) zero d lt holds = holds
there P (lane ∷ lanes) (suc i) d lt holds = there P lanes i d (omega (arith, lt)) holds

pub job_more : (taken : Taken) (key_for : KeyFor) (lanes : List CertLane) (number : ℕ) (job : List Content) (content : Content) (d : CertLane) → number < length lanes →
    IsLaneInput taken key_for number (get_or lanes number d) content → IsJobTo taken key_for lanes number job → IsJobTo taken key_for lanes (number + 1) (job ++ content ∷ [])
job_more taken key_for lanes number job content d lt input so_far = record {
  all = omega (arith, length-append job (content ∷ []), so_far.all);
  each = λ i one h. elim (get_push job content one i h) [
    | inl old ↦ so_far.each i one old
    | inr new ↦ subst (λ (c : Content). IsSomeAnd (slice_get lanes i) (λ lane. IsLaneInput taken key_for i lane c)) new.1
        (subst (λ (n : ℕ). IsSomeAnd (slice_get lanes n) (λ lane. IsLaneInput taken key_for n lane content)) (sym (new.0 ∙ so_far.all))
        (there (λ lane. IsLaneInput taken key_for number lane content) lanes number d lt input))
  ];
}
