-- What each answer says fits its request.
use Rattle.std.proofs.Common.{◌≡◌, ◌⊎◌, inl, inr, ℕ, Bool, IsTrue, List, Some, refl, sym, ◌∙◌, ap, subst}
use Rattle.std.specs.Prelude.{◌↔◌}
use Rattle.audit_model.specs.declared.address.Addr.{Addr}
use Rattle.audit_model.specs.declared.sighting.Sighting.{Sighting}
use Rattle.audit_stun.specs.Parts.{parts_of}
use Rattle.audit_stun.specs.declared.class.Class.TheVariants.{Success, Error}
use Rattle.audit_stun.specs.declared.numbers.method.TheConstants.{BINDING, ALLOCATE, REFRESH, CREATE_PERMISSION, CHANNEL_BIND}
use Rattle.audit_stun.specs.declared.numbers.attribute.TheConstants.{XOR_MAPPED_ADDRESS}
use Rattle.audit_rules.specs.Allocation.{Change}
use Rattle.audit_rules.specs.Allocating.{AnswersNew, AnswersAgain, AnswersRefresh, EndsNothing, IsRefreshed}
use Rattle.audit_rules.specs.Granting.{AnswersPermission, AnswersChannelBind}
use Rattle.audit_rules.specs.Responses.{AnswersBinding, AnswersError}
use Rattle.audit_rules.specs.Situation.{Situation, arrival_parts, answered}
use Rattle.audit_rules.specs.Standing.{IsResponse}
use Rattle.audit_rules.specs.Values.{Names, lifetime_of}
use Rattle.audit_faults.specs.Fits.{SuccessFits, NamesClient, IsFit}
use Rattle.audit_faults.proofs.Causing.{to_client}

module _ (x : Situation) where
  success : (method : ℕ) → IsResponse x Success method → SuccessFits method x.leaves.to x.arrives.payload x.leaves.payload → IsFit x.arrives x.leaves
  success method r fits = record {
    success = λ _. subst (λ (m : ℕ). SuccessFits m x.leaves.to x.arrives.payload x.leaves.payload) (sym r.response.2) fits;
    error = λ e. absurd (let both : Success ≡ Error = sym r.response.1 ∙ e in cc);
  }

  own_address : (method : ℕ) → IsResponse x Success method → Names XOR_MAPPED_ADDRESS (answered x) x.client → NamesClient x.leaves.payload x.leaves.to
  own_address method r named = subst (λ (a : Addr). Names XOR_MAPPED_ADDRESS (answered x) a) (sym (to_client x r.back).1) named

  one_number : (a b : ℕ) → Some a ≡ Some b → a ≡ b
  one_number a b e = cc

  is_zero : (seconds : ℕ) → lifetime_of (answered x) ≡ Some seconds → EndsNothing x ⊎ IsRefreshed x → (lifetime_of (arrival_parts x) ≡ Some 0) ↔ (seconds ≡ 0)
  is_zero seconds lasts (inl ends) = (λ _. one_number seconds 0 (sym lasts ∙ ends.2), λ _. ends.1)
  is_zero seconds lasts (inr renewed) = (λ a. one_number seconds 0 (sym lasts ∙ renewed.1.0 a), λ z. renewed.1.1 (lasts ∙ ap (λ (n : ℕ). Some n) z))

  pub binding : AnswersBinding x → IsFit x.arrives x.leaves
  binding r = success BINDING r.response (inl (refl, own_address BINDING r.response r.mapped))

  pub new : (change : Change) → AnswersNew x change → IsFit x.arrives x.leaves
  new change r = success ALLOCATE r.response (inr (inl (refl, own_address ALLOCATE r.response r.mapped)))

  pub again : AnswersAgain x → IsFit x.arrives x.leaves
  again r = success ALLOCATE r.response (inr (inl (refl, own_address ALLOCATE r.response r.mapped)))

  pub refresh : (change : Change) → AnswersRefresh x change → IsFit x.arrives x.leaves
  refresh change r = success REFRESH r.response (inr (inr (inl (refl, (r.seconds, r.lasts, is_zero r.seconds r.lasts r.allowed)))))

  pub permission : (change : Change) → AnswersPermission x change → IsFit x.arrives x.leaves
  permission change r = success CREATE_PERMISSION r.response (inr (inr (inr (inl refl))))

  pub channel_bind : (change : Change) → AnswersChannelBind x change → IsFit x.arrives x.leaves
  channel_bind change r = success CHANNEL_BIND r.response (inr (inr (inr (inr (refl, (r.number, r.has_number, r.in_range, (r.peer, r.names)))))))

  pub error : AnswersError x → IsFit x.arrives x.leaves
  error r = record {
    success = λ e. absurd (let both : Error ≡ Success = sym r.response.response.1 ∙ e in cc);
    error = λ _. record { code = r.code; has_code = r.has_code; challenges = r.fits.challenges; unknown = r.fits.unknown; transport = r.fits.transport };
  }

-- a success that fits is fit, and no other
pub fit_of_success : (arrival departure : Sighting) (request response : List ℕ) (b : Bool) → response ≡ departure.payload → request ≡ arrival.payload → (parts_of response).class ≡ Success →
    (IsTrue b → SuccessFits (parts_of response).method departure.to request response) × (SuccessFits (parts_of response).method departure.to request response → IsTrue b) →
    (IsTrue b → IsFit arrival departure) × (IsFit arrival departure → IsTrue b)
fit_of_success arrival departure request response b r q class h =
    let fits : List ℕ → List ℕ → Type 0 = λ one other. SuccessFits (parts_of other).method departure.to one other in
    let class' : (parts_of departure.payload).class ≡ Success = sym (ap (λ (p : List ℕ). (parts_of p).class) r) ∙ class in (
      λ t. record {
        success = λ _. subst (λ (p : List ℕ). fits arrival.payload p) r (subst (λ (p : List ℕ). fits p response) q (h.0 t));
        error = λ e. absurd (let both : Success ≡ Error = sym class' ∙ e in cc);
      },
      λ fit. h.1 (subst (λ (p : List ℕ). fits p response) (sym q) (subst (λ (p : List ℕ). fits arrival.payload p) (sym r) (fit.success class'))),
    )
