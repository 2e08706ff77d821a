-- The two datagrams of the Binding capture are explained by a run.
use Rattle.std.proofs.Common.{◌≡◌, ◌<◌, ℕ, zero, suc, Bool, true, false, ◌==◌, ◌&&◌, ltb, cond, List, [], ◌∷◌, Option, Some, None, refl, sym, ◌∙◌, ap, subst, arith}
use Rattle.std.specs.Prelude.{is_some, IsTrue}
use Rattle.std.specs.List.{fold, list_all}
use Rattle.std.proofs.lemmas.Bool.{ne_eqb, true≢false, ltb-true, and_parts}
use Rattle.audit_model.specs.declared.sighting.SightId.{SightId}
use Rattle.audit_model.specs.declared.sighting.Sighting.{Sighting}
use Rattle.audit_model.specs.Policy.{listens, AreApart}
use Rattle.audit_model.specs.Sames.{same_sight}
use Rattle.audit_stun.specs.declared.class.Class.TheVariants.{Request, Success}
use Rattle.audit_stun.specs.declared.numbers.method.TheConstants.{BINDING}
use Rattle.audit_stun.specs.declared.numbers.attribute.TheConstants.{XOR_MAPPED_ADDRESS}
use Rattle.audit_stun.specs.Message.{Parts, IsMessage}
use Rattle.audit_sightings.specs.Intake.{sighting_at}
use Rattle.audit_rules.specs.Allocation.{Same}
use Rattle.audit_rules.specs.Answer.{MayAnswer, Binding}
use Rattle.audit_rules.specs.Keys.{KeyFor}
use Rattle.audit_rules.specs.Responses.{AnswersBinding}
use Rattle.audit_rules.specs.Said.{change_in}
use Rattle.audit_rules.specs.Situation.{Situation, IsOf}
use Rattle.audit_rules.specs.Values.{address_named}
use Rattle.audit_rules.proofs.Said.{may_says, may_as_said}
use Rattle.audit_server.specs.Captured.{situation_at}
use Rattle.audit_server.specs.Placing.{times_placed}
use Rattle.audit_server.specs.Rules.{Rules}
use Rattle.audit_server.specs.Run.{IsFree, RunFrom}
use Rattle.audit_server.specs.State.{State, at_first, after}
use Rattle.audit_server.specs.Step.{In}
use Rattle.audit_whole.specs.BindingCapture.{the_server, the_pair, the_policy, request_payload, success_payload, request_name, success_name, the_request, the_success, binding_capture, binding_steps}
use Rattle.audit_sightings.specs.ByInterface.{AreBytes, SightingFits}
use Rattle.audit_sightings.specs.Bounds.{IsBounded}
use Rattle.audit_whole.specs.CaptureRun.{rules_for, IsCaptureRun}
use Rattle.audit_whole.proofs.BindingMessages.{request_read, success_read, request_message, success_message, tells_client}

-- ---- each sighting once

none : (b : Bool) → b ≡ false → cond {A = ℕ} b 1 0 ≡ 0
none b h = ap (λ c. cond {A = ℕ} c 1 0) h

listed : (i j : ℕ) → times_placed (record { iface = i; index = j }) binding_steps ≡ cond (is_some (sighting_at binding_capture (record { iface = i; index = j }))) 1 0
listed zero zero = refl
listed zero (suc zero) = refl
listed zero (suc (suc j)) = omega (arith, none (0 == suc (suc j)) (ne_eqb 0 (suc (suc j)) (λ e. omega (arith, e))), none (1 == suc (suc j)) (ne_eqb 1 (suc (suc j)) (λ e. omega (arith, e))))
listed (suc i) j = omega (arith, none ((0 == suc i) && (0 == j)) (other 0), none ((0 == suc i) && (1 == j)) (other 1)) where
  other : (k : ℕ) → ((0 == suc i) && (k == j)) ≡ false
  other k = ap (λ b. b && (k == j)) (ne_eqb 0 (suc i) (λ e. omega (arith, e)))

-- ---- the answer

module _ (key_for : KeyFor) where
  abbrev X : Situation
  X = situation_at the_policy key_for the_pair 10000100 None the_request the_success

  request_is : IsOf request_payload Request BINDING
  request_is = subst (λ (p : Parts). IsMessage request_payload p × (p.class ≡ Request) × (p.method ≡ BINDING)) (sym request_read) (request_message, refl, refl)

  success_is : IsOf success_payload Success BINDING
  success_is = subst (λ (p : Parts). IsMessage success_payload p × (p.class ≡ Success) × (p.method ≡ BINDING)) (sym success_read) (success_message, refl, refl)

  answers : AnswersBinding X
  answers = record {
    response = record {
      forth = refl;
      back = refl;
      request = request_is;
      response = success_is;
      same_id = ap (λ (p : Parts). p.tid) success_read ∙ sym (ap (λ (p : Parts). p.tid) request_read);
    };
    mapped = ap (address_named XOR_MAPPED_ADDRESS) success_read ∙ tells_client;
  }

  may : MayAnswer X Same
  unfolding MayAnswer
  may = (listening, Binding, (answers, refl)) where
    listening : IsTrue (listens the_policy the_server)
    listening = refl

  abbrev W : Rules
  W = rules_for binding_capture key_for

  -- ---- the run

  abbrev came : State
  came = after W at_first (record { moment = 10000000; move = In request_name })

  free : IsFree W came 10000100 the_pair (change_in X)
  free = subst (IsFree W came 10000100 the_pair) (sym (may_says X Same may)) tt

  runs : RunFrom W at_first binding_steps
  runs = (
    record { in_order = omega arith; may = tt; free = tt },
    (record { in_order = omega arith; may = (omega arith, refl, may_as_said X Same may); free = free }, (record { in_order = omega arith; may = omega arith; free = tt }, tt)),
  )

  nothing_owed : (t : SightId) → (fold (after W) at_first binding_steps).owed t ≡ None
  nothing_owed t = elim (same_sight t success_name) as (λ b. cond b None (cond b at_ten None) ≡ None) [ true ↦ refl | false ↦ refl ] where
    at_ten : Option ℕ
    at_ten = Some 10000000

  pub binding_explained : IsCaptureRun binding_capture (rules_for binding_capture key_for) binding_steps
  binding_explained = record {
    placed = λ s. listed s.iface s.index;
    seen = ((refl, omega arith, omega arith), (tt, ((refl, omega arith, omega arith), tt)));
    order = ((keep_one, (keep_two, tt)), ((keep_act, tt), (tt, tt)));
    run = record { runs = runs; nothing_owed = nothing_owed };
  } where
    keep_one : (s t : SightId) → Some request_name ≡ Some s → None ≡ Some t → s.iface ≡ t.iface → s.index < t.index
    keep_one s t a b e = absurd (let k : None ≡ Some t = b in cc)

    keep_two : (s t : SightId) → Some request_name ≡ Some s → Some success_name ≡ Some t → s.iface ≡ t.iface → s.index < t.index
    keep_two s t a b e =
        let i : 0 ≡ s.index = ap (λ (x : SightId). x.index) (let k : request_name ≡ s = cc in k) in
        let j : 1 ≡ t.index = ap (λ (x : SightId). x.index) (let k : success_name ≡ t = cc in k) in omega arith

    keep_act : (s t : SightId) → None ≡ Some s → Some success_name ≡ Some t → s.iface ≡ t.iface → s.index < t.index
    keep_act s t a b e = absurd (let k : None ≡ Some s = a in cc)

-- ---- what an intake keeps

no_relay : AreApart the_policy
no_relay addr a b = absurd (true≢false (sym b))

pub binding_apart : AreApart binding_capture.policy
binding_apart = no_relay

bytes : (payload : List ℕ) → list_all (λ b. ltb b 256) payload ≡ true → AreBytes payload
bytes [] all i = omega arith
bytes (b ∷ payload) all zero = ltb-true b 256 (and_parts (ltb b 256) (list_all (λ byte. ltb byte 256) payload) all).0
bytes (b ∷ payload) all (suc i) = bytes payload (and_parts (ltb b 256) (list_all (λ byte. ltb byte 256) payload) all).1 i

fits_at : (i j : ℕ) (s : Sighting) → sighting_at binding_capture (record { iface = i; index = j }) ≡ Some s → SightingFits s
fits_at zero zero s h = subst SightingFits (let k : the_request ≡ s = cc in k) (omega arith, (omega arith, omega arith), (omega arith, omega arith), bytes request_payload refl)
fits_at zero (suc zero) s h = subst SightingFits (let k : the_success ≡ s = cc in k) (omega arith, (omega arith, omega arith), (omega arith, omega arith), bytes success_payload refl)
fits_at zero (suc (suc j)) s h = absurd (let k : None ≡ Some s = h in cc)
fits_at (suc i) j s h = absurd (let k : None ≡ Some s = h in cc)

pub binding_bounded : IsBounded binding_capture
binding_bounded = record { few_interfaces = omega arith; few = omega arith; fits = λ id s h. fits_at id.iface id.index s h }
