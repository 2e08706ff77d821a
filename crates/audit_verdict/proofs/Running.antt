-- What a lane keeps, as a state of the server that has its client alone.
use Rattle.std.proofs.Common.{◌≡◌, ◌≤◌, ℕ, Bool, true, false, cond, ◌||◌, Option, Some, None, refl, sym, ap, ◌∙◌, subst}
use Rattle.std.specs.Prelude.{is_some, option_map}
use Rattle.std.proofs.lemmas.Bool.{true≢false, cond-true, cond-false, ltb-false, le-ltb}
use Rattle.audit_model.specs.Window.{later}
use Rattle.audit_model.specs.declared.pair.Pair.{Pair}
use Rattle.audit_model.specs.declared.rule.Rule.{Rule}
use Rattle.audit_model.specs.declared.rule.Rule.TheVariants.{HeldTooLong, ActedTwice, ActBeforeArrival, LeftWithoutAct}
use Rattle.audit_model.specs.declared.sighting.SightId.{SightId}
use Rattle.audit_model.specs.declared.sighting.Sighting.{Sighting}
use Rattle.audit_model.specs.Sames.{same_client}
use Rattle.audit_model.proofs.Sames.{client_same, client_apart}
use Rattle.audit_rules.specs.Allocation.{Allocation, Change, Same, Makes, Renews, Grants, Binds, Removes}
use Rattle.audit_rules.specs.Answer.{MayAnswer}
use Rattle.audit_rules.specs.Keys.{KeyFor}
use Rattle.audit_rules.specs.Said.{change_in}
use Rattle.audit_rules.specs.Situation.{Situation}
use Rattle.audit_rules.proofs.Keys.{change_keyed}
use Rattle.audit_server.specs.Captured.{change_between, MayBetween, rules_of}
use Rattle.audit_server.specs.Placed.{step_of}
use Rattle.audit_server.specs.Rules.{Rules}
use Rattle.audit_server.specs.Run.{Allowed, MayMove, InTime, IsFree, HandsOutFree, HasAddress}
use Rattle.audit_server.specs.State.{State, put}
use Rattle.audit_lane.specs.declared.noted.Arrival.{Arrival}
use Rattle.audit_lane.specs.declared.noted.Departure.{Departure}
use Rattle.audit_lane.specs.declared.noted.Owed.{Owed}
use Rattle.audit_lane.specs.Content.{Happening, Came, Acted, Went}
use Rattle.audit_lane.specs.Faults.{IsRight, act_fault, out_fault, is_past}
use Rattle.audit_lane.specs.Kept.{Terms, Kept, user_by, situation_in}
use Rattle.audit_verdict.specs.Run.{IsKnown, placed_at, move_of}
use Rattle.audit_lane.specs.Walk.{key_at}
use Rattle.audit_verdict.proofs.KeysTold.{AgreeInRequest, may_said}

-- an arrival that no act took waits
abbrev pub waits : Option Arrival → Option ℕ
waits None = None
waits (Some a) = cond a.acted None (Some a.moment)

abbrev pub owes_by : ℕ → Option Owed → Option ℕ
owes_by arrived None = None
owes_by arrived (Some one) = Some arrived

abbrev pub owes : (ℕ → Option Owed) → Option Departure → Option ℕ
owes owed None = None
owes owed (Some g) = owes_by g.arrived (owed g.place)

abbrev pub state_of : Pair → Kept → ℕ → State
state_of pair kept now = record {
  table = put same_client (λ _. None) pair kept.standing.allocation;
  waiting = λ s. waits (kept.came s);
  owed = λ t. owes kept.owed (kept.gave t);
  sent = λ t. is_some (kept.gave t);
  now = now;
}

-- the sighting hasn't come in, or hasn't left, before
abbrev pub IsFresh : Kept → Happening → Type 0
IsFresh kept (Came s user key) = kept.came s.id ≡ None
IsFresh kept (Acted a l key) = Unit {0}
IsFresh kept (Went t key) = owes kept.owed (kept.gave t.id) ≡ option_map (λ (g : Departure). g.arrived) (kept.gave t.id)

past_to : (b : Bool) (r : Rule) → cond b (Some r) None ≡ None → b ≡ false
past_to true r h = let z : Some r ≡ None = h in cc
past_to false r h = refl

past_from : (b : Bool) (r : Rule) → b ≡ false → cond b (Some r) None ≡ None
past_from b r h = cond-false b (Some r) None h

-- an arrival in time, that was not taken, and a departure that was not given
pub record IsOpen (hold moment : ℕ) (arrival : Option Arrival) (given : Option Departure) : Type 0 where
  pub came : ℕ
  pub user : Option ℕ
  pub is : arrival ≡ Some (record { moment = came; user = user; acted = false })
  pub in_time : moment ≤ later came hold
  pub not_given : given ≡ None

pub open_to : (hold moment : ℕ) (a : Option Arrival) (g : Option Departure) → act_fault hold a g moment ≡ None → IsOpen hold moment a g
open_to hold moment None g h = absurd (let z : Some ActBeforeArrival ≡ None = h in cc)
open_to hold moment (Some a) g h = by_acted a.acted refl g h where
  by_acted : (b : Bool) → a.acted ≡ b → (g : Option Departure) → cond (b || is_some g) (Some ActedTwice) (cond (is_past hold a.moment moment) (Some HeldTooLong) None) ≡ None → IsOpen hold moment (Some a) g
  by_acted true e g h = absurd (let z : Some ActedTwice ≡ None = h in cc)
  by_acted false e (Some x) h = absurd (let z : Some ActedTwice ≡ None = h in cc)
  by_acted false e None h = record {
    came = a.moment;
    user = a.user;
    is = λ i. Some (record { moment = a.moment; user = a.user; acted = e i });
    in_time = ltb-false (later a.moment hold) moment (past_to (is_past hold a.moment moment) HeldTooLong h);
    not_given = refl;
  }

open_from : (hold moment : ℕ) (a : Option Arrival) (g : Option Departure) → IsOpen hold moment a g → act_fault hold a g moment ≡ None
open_from hold moment a g o =
    ap (λ (x : Option Arrival). act_fault hold x g moment) o.is ∙ ap (λ (y : Option Departure). act_fault hold (Some (record { moment = o.came; user = o.user; acted = false })) y moment) o.not_given
    ∙ past_from (is_past hold o.came moment) HeldTooLong (le-ltb (later o.came hold) moment o.in_time)

module _ (terms : Terms) (key_for : KeyFor) (pair : Pair) (sighting : SightId → Option Sighting) where
  abbrev pub w_of : Rules
  w_of = rules_of terms.policy key_for sighting

  -- what waits came in
  pub came_in : (moment : ℕ) (o : Option Arrival) → InTime w_of (waits o) moment → (a : Arrival) × (o ≡ Some a)
  came_in moment None t = absurd t
  came_in moment (Some a) t = (a, refl)

  time_open : (moment : ℕ) (a : Option Arrival) (g : Option Departure) → InTime w_of (waits a) moment → is_some g ≡ false → IsOpen terms.policy.hold moment a g
  time_open moment None g t n = absurd t
  time_open moment (Some a) (Some x) t n = absurd (true≢false n)
  time_open moment (Some a) None t n = by_acted a.acted refl t where
    by_acted : (b : Bool) → a.acted ≡ b → InTime w_of (cond b None (Some a.moment)) moment → IsOpen terms.policy.hold moment (Some a) None
    by_acted true e t = absurd t
    by_acted false e t = record { came = a.moment; user = a.user; is = λ i. Some (record { moment = a.moment; user = a.user; acted = e i }); in_time = t; not_given = refl }

  open_time : (moment : ℕ) (a : Option Arrival) (g : Option Departure) → IsOpen terms.policy.hold moment a g → InTime w_of (waits a) moment × (is_some g ≡ false)
  open_time moment a g o = (subst (λ (x : Option Arrival). InTime w_of (waits x) moment) (sym o.is) o.in_time, ap is_some o.not_given)

  out_to : (moment : ℕ) (o : Option Departure) → out_fault terms.policy.hold o moment ≡ None → InTime w_of (option_map (λ (g : Departure). g.arrived) o) moment
  out_to moment None h = absurd (let z : Some LeftWithoutAct ≡ None = h in cc)
  out_to moment (Some g) h = ltb-false (later g.arrived terms.policy.hold) moment (past_to (is_past terms.policy.hold g.arrived moment) HeldTooLong h)

  out_from : (moment : ℕ) (o : Option Departure) → InTime w_of (option_map (λ (g : Departure). g.arrived) o) moment → out_fault terms.policy.hold o moment ≡ None
  out_from moment None h = absurd h
  out_from moment (Some g) h = past_from (is_past terms.policy.hold g.arrived moment) HeldTooLong (le-ltb (later g.arrived terms.policy.hold) moment h)

  -- the client's own allocation
  module _ (kept : Kept) (at : (kept.standing.client ≡ pair.client) × (kept.standing.listen ≡ pair.listen)) where
    abbrev here : Option Allocation
    here = put same_client (λ _. None) pair kept.standing.allocation pair

    pub own : put same_client (λ _. None) pair kept.standing.allocation pair ≡ kept.standing.allocation
    own = cond-true (same_client pair pair) kept.standing.allocation None (client_same pair pair refl)

    abbrev asked_by : KeyFor → Sighting → Sighting → ℕ → Situation
    asked_by keys a l moment = record { client = pair.client; listen = pair.listen; policy = terms.policy; key_for = keys; allocation = kept.standing.allocation; arrives = a; leaves = l; moment = moment }

    abbrev told : Sighting → KeyFor
    told a = terms.keys (user_by (kept.came a.id))

    situation_is : (a l : Sighting) (moment : ℕ) → situation_in terms kept a l moment ≡ asked_by (told a) a l moment
    situation_is a l moment = λ i. record { client = at.0 i; listen = at.1 i; policy = terms.policy; key_for = told a; allocation = kept.standing.allocation; arrives = a; leaves = l; moment = moment }

    pub change_same : (x : Option Allocation) (a l : Sighting) (moment : ℕ) → sighting a.id ≡ Some a → sighting l.id ≡ Some l → x ≡ kept.standing.allocation →
        change_between terms.policy key_for pair moment x (sighting a.id) (sighting l.id) ≡ change_in (situation_in terms kept a l moment)
    change_same x a l moment k m e =
        ap (λ x. change_between terms.policy key_for pair moment x (sighting a.id) (sighting l.id)) e
        ∙ ap (λ o. change_between terms.policy key_for pair moment kept.standing.allocation o (sighting l.id)) k
        ∙ ap (λ o. change_between terms.policy key_for pair moment kept.standing.allocation (Some a) o) m
        ∙ sym (change_keyed key_for (asked_by (told a) a l moment))
        ∙ ap change_in (sym (situation_is a l moment))

    abbrev May : Situation → Type 0
    May x = MayAnswer x (change_in x)

    may_same : (a l : Sighting) (moment : ℕ) → sighting a.id ≡ Some a → sighting l.id ≡ Some l →
        MayBetween terms.policy key_for pair moment (put same_client (λ _. None) pair kept.standing.allocation pair) (sighting a.id) (sighting l.id) ≡ May (asked_by key_for a l moment)
    may_same a l moment k m =
        ap (λ x. MayBetween terms.policy key_for pair moment x (sighting a.id) (sighting l.id)) own
        ∙ ap (λ o. MayBetween terms.policy key_for pair moment kept.standing.allocation o (sighting l.id)) k
        ∙ ap (λ o. MayBetween terms.policy key_for pair moment kept.standing.allocation (Some a) o) m

    may_to : (a l : Sighting) (moment : ℕ) → AgreeInRequest (told a) key_for a.payload → May (situation_in terms kept a l moment) → May (asked_by key_for a l moment)
    may_to a l moment agree may = may_said key_for (asked_by (told a) a l moment) agree (subst May (situation_is a l moment) may)

    may_back : (a l : Sighting) (moment : ℕ) → AgreeInRequest (told a) key_for a.payload → May (asked_by key_for a l moment) → May (situation_in terms kept a l moment)
    may_back a l moment agree may = subst May (sym (situation_is a l moment))
        (may_said (told a) (asked_by key_for a l moment) (λ message class user realm names_user names_realm. sym (agree message class user realm names_user names_realm)) may)

    -- an act's request tells a user with the key that the credentials have
    abbrev pub AgreesOnAct : Happening → Type 0
    AgreesOnAct (Came s user key) = Unit {0}
    AgreesOnAct (Acted a l key) = AgreeInRequest (told a) key_for a.payload
    AgreesOnAct (Went s key) = Unit {0}

    free_change : (now moment : ℕ) (ch : Change) → IsFree w_of (state_of pair kept now) moment pair ch
    free_change now moment Same = tt
    free_change now moment (Makes made) = λ other ne h. subst (λ (x : Option Allocation). HasAddress terms.policy.grace moment made.relayed x) (cond-false (same_client other pair) kept.standing.allocation None (client_apart other pair ne)) h
    free_change now moment (Renews until) = tt
    free_change now moment (Grants ips until) = tt
    free_change now moment (Binds number peer until permitted) = tt
    free_change now moment Removes = tt

    free_move : (now place : ℕ) (event : Happening) → HandsOutFree w_of (state_of pair kept now) (key_at event).moment (move_of pair event)
    free_move now place (Came s user key) = tt
    free_move now place (Acted a l key) = free_change now key.moment (change_between terms.policy key_for pair key.moment (put same_client (λ _. None) pair kept.standing.allocation pair) (sighting a.id) (sighting l.id))
    free_move now place (Went s key) = tt

    -- the server may take the step just where the event breaks no rule
    may_from : (now : ℕ) (event : Happening) → AgreesOnAct event → IsKnown sighting event → IsFresh kept event → IsRight terms kept event → MayMove w_of (state_of pair kept now) (key_at event).moment (move_of pair event)
    may_from now (Came s user key) g k f r = tt
    may_from now (Acted a l key) g k f r =
        let t = open_time key.moment (kept.came a.id) (kept.gave l.id) (open_to terms.policy.hold key.moment (kept.came a.id) (kept.gave l.id) r.0) in
        (t.0, t.1, subst (λ X. X) (sym (may_same a l key.moment k.0 k.1)) (may_to a l key.moment g r.1))
    may_from now (Went s key) g k f r = subst (λ (o : Option ℕ). InTime w_of o key.moment) (sym f) (out_to key.moment (kept.gave s.id) r)

    pub right_from : (now : ℕ) (event : Happening) → AgreesOnAct event → IsKnown sighting event → IsFresh kept event → MayMove w_of (state_of pair kept now) (key_at event).moment (move_of pair event) → IsRight terms kept event
    right_from now (Came s user key) g k f m = tt
    right_from now (Acted a l key) g k f m =
        (open_from terms.policy.hold key.moment (kept.came a.id) (kept.gave l.id) (time_open key.moment (kept.came a.id) (kept.gave l.id) m.0 m.1), may_back a l key.moment g (subst (λ X. X) (may_same a l key.moment k.0 k.1) m.2))
    right_from now (Went s key) g k f m = out_from key.moment (kept.gave s.id) (subst (λ (o : Option ℕ). InTime w_of o key.moment) f m)

    pub allowed_from : (now place : ℕ) (event : Happening) → now ≤ (key_at event).moment → AgreesOnAct event → IsKnown sighting event → IsFresh kept event → IsRight terms kept event → Allowed w_of (state_of pair kept now) (step_of (placed_at terms pair place event))
    allowed_from now place event le g k f r = record { in_order = le; may = may_from now event g k f r; free = free_move now place event }
