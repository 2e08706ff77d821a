-- What may be done by the sightings of an intake may be done by those of the intake as it has grown, and comes to the same.
use Rattle.std.proofs.Common.{◌≡◌, ℕ, zero, suc, Option, Some, None, List, [], ◌∷◌, ◌++◌, refl, sym, ◌∙◌, ap, subst}
use Rattle.std.specs.Prelude.{slice_get, slice_index_or, option_and_then}
use Rattle.std.proofs.lemmas.Option.{none-some}
use Rattle.audit_model.specs.declared.policy.Policy.{Policy}
use Rattle.audit_model.specs.declared.sighting.SightId.{SightId}
use Rattle.audit_model.specs.declared.sighting.Sighting.{Sighting}
use Rattle.audit_model.specs.declared.verdict.Tenancy.{Tenancy}
use Rattle.audit_rules.specs.Allocation.{Allocation, Change, Same, Makes, Renews, Grants, Binds, Removes, applied}
use Rattle.audit_rules.specs.Tenancies.{running_after, ended_by}
use Rattle.audit_rules.specs.Keys.{KeyFor}
use Rattle.audit_sightings.specs.Intake.{Taken, sighting_at}
use Rattle.audit_sightings.specs.ByInterface.{of_interface}
use Rattle.audit_order.specs.Kept.{Stays}
use Rattle.audit_server.specs.Rules.{Rules}
use Rattle.audit_model.specs.declared.pair.Pair.{Pair}
use Rattle.audit_server.specs.State.{State, after, acted, put}
use Rattle.audit_model.specs.Sames.{same_client}
use Rattle.audit_server.specs.Run.{HasAddress, InTime, MayMove, IsFree, HandsOutFree}
use Rattle.audit_server.specs.Step.{Move, In, Act, Out}
use Rattle.audit_server.specs.Placed.{Placed, step_of, Runs, led}
use Rattle.std.specs.Prelude.{option_to_list}
use Rattle.audit_server.specs.Tenancies.{running, ended, tenancies_from}
use Rattle.audit_server.specs.Captured.{change_between, MayBetween}
use Rattle.audit_server.proofs.Holding.{ActsFrom, MayAct}
use Rattle.audit_whole.specs.CaptureRun.{rules_for}
use Rattle.audit_prefix.specs.Walk.{Memory, came_after, owing_after, remembered, remembered_all, since_after, taken_after}

-- ---- sightings stay

at_row : (rows : List (List Sighting)) (i k : ℕ) → option_and_then (λ row. slice_get row k) (slice_get rows i) ≡ slice_get (slice_index_or rows i []) k
at_row [] i k = refl
at_row (row ∷ rows) zero k = refl
at_row (row ∷ rows) (suc i) k = at_row rows i k

get_before : (xs ys : List Sighting) (k : ℕ) (x : Sighting) → slice_get xs k ≡ Some x → slice_get (xs ++ ys) k ≡ Some x
get_before [] ys k x there = absurd (none-some x there)
get_before (y ∷ xs) ys zero x there = there
get_before (y ∷ xs) ys (suc k) x there = get_before xs ys k x there

pub still_there : (before now : Taken) → Stays before now → (sight : SightId) (x : Sighting) → sighting_at before sight ≡ Some x → sighting_at now sight ≡ Some x
still_there before now stays sight x there =
    let grown = stays.rows sight.iface in
    at_row now.interfaces sight.iface sight.index
    ∙ ap (λ (row : List Sighting). slice_get row sight.index) grown.1
    ∙ get_before (of_interface before.interfaces sight.iface) grown.0 sight.index x (sym (at_row before.interfaces sight.iface sight.index) ∙ there)

-- ---- rules that say the same of what they both allow

pub record GoOn (w v : Rules) : Type 0 where
  pub grace : v.grace ≡ w.grace
  pub hold : v.hold ≡ w.hold
  pub may : (c : Pair) (s t : SightId) (moment : ℕ) (x : Option Allocation) → w.MayAnswer c s t moment x → v.MayAnswer c s t moment x
  pub change : (c : Pair) (s t : SightId) (moment : ℕ) (x : Option Allocation) → w.MayAnswer c s t moment x → v.change c s t moment x ≡ w.change c s t moment x

module _ (policy : Policy) (key_for : KeyFor) (c : Pair) (moment : ℕ) (x : Option Allocation) where
  between : (a b a' b' : Option Sighting) → ((s : Sighting) → a ≡ Some s → a' ≡ Some s) → ((s : Sighting) → b ≡ Some s → b' ≡ Some s) → MayBetween policy key_for c moment x a b →
      MayBetween policy key_for c moment x a' b' × (change_between policy key_for c moment x a' b' ≡ change_between policy key_for c moment x a b)
  between None b a' b' f g m = absurd m
  between (Some s) None a' b' f g m = absurd m
  between (Some s) (Some t) a' b' f g m =
      let e : a' ≡ Some s = f s refl in
      let h : b' ≡ Some t = g t refl in (
        subst (λ (p : Option Sighting). MayBetween policy key_for c moment x p b') (sym e) (subst (λ (q : Option Sighting). MayBetween policy key_for c moment x (Some s) q) (sym h) m),
        ap (λ p. change_between policy key_for c moment x p b') e ∙ ap (λ q. change_between policy key_for c moment x (Some s) q) h,
      )

pub go_on : (before now : Taken) → Stays before now → (key_for : KeyFor) → GoOn (rules_for before key_for) (rules_for now key_for)
go_on before now stays key_for = record {
  grace = ap (λ (p : Policy). p.grace) stays.policy;
  hold = ap (λ (p : Policy). p.hold) stays.policy;
  may = λ c s t moment x m. subst (λ (p : Policy). MayBetween p key_for c moment x (sighting_at now s) (sighting_at now t)) (sym stays.policy)
      (between before.policy key_for c moment x (sighting_at before s) (sighting_at before t) (sighting_at now s) (sighting_at now t) (λ y h. still_there before now stays s y h) (λ y h. still_there before now stays t y h) m).0;
  change = λ c s t moment x m. ap (λ (p : Policy). change_between p key_for c moment x (sighting_at now s) (sighting_at now t)) stays.policy
      ∙ (between before.policy key_for c moment x (sighting_at before s) (sighting_at before t) (sighting_at now s) (sighting_at now t) (λ y h. still_there before now stays s y h) (λ y h. still_there before now stays t y h) m).1;
}

module _ (w v : Rules) (g : GoOn w v) where
  in_time : (x : Option ℕ) (moment : ℕ) → InTime w x moment → InTime v x moment
  in_time None moment h = h
  in_time (Some came) moment h = rw (g.hold) h

  may_still : (st : State) (moment : ℕ) (move : Move) → MayMove w st moment move → MayMove v st moment move
  may_still st moment (In s) m = tt
  may_still st moment (Act c s t) m = (in_time (st.waiting s) moment m.0, m.1, g.may c s t moment (st.table c) m.2)
  may_still st moment (Out t) m = in_time (st.owed t) moment m

  has_still : (moment : ℕ) (relayed : _) (x : Option Allocation) → HasAddress v.grace moment relayed x → HasAddress w.grace moment relayed x
  has_still moment relayed x h = subst (λ (n : ℕ). HasAddress n moment relayed x) g.grace h

  free_by : (st : State) (moment : ℕ) (c : Pair) (ch : Change) → IsFree w st moment c ch → IsFree v st moment c ch
  free_by st moment c Same f = tt
  free_by st moment c (Makes made) f = λ other ne h. f other ne (has_still moment made.relayed (st.table other) h)
  free_by st moment c (Renews until) f = tt
  free_by st moment c (Grants ips until) f = tt
  free_by st moment c (Binds number peer until permitted) f = tt
  free_by st moment c Removes f = tt

  free_still : (st : State) (moment : ℕ) (move : Move) → MayMove w st moment move → HandsOutFree w st moment move → HandsOutFree v st moment move
  free_still st moment (In s) m f = tt
  free_still st moment (Act c s t) m f = subst (λ (ch : Change). IsFree v st moment c ch) (sym (g.change c s t moment (st.table c) m.2)) (free_by st moment c (w.change c s t moment (st.table c)) f)
  free_still st moment (Out t) m f = tt

  after_by : (st : State) (moment : ℕ) (move : Move) → MayMove w st moment move → after v st (record { moment = moment; move = move }) ≡ after w st (record { moment = moment; move = move })
  after_by st moment (In s) m = refl
  after_by st moment (Act c s t) m = ap (λ (ch : Change). record {
    table = put same_client st.table c (applied ch (st.table c));
    waiting = (after w st (record { moment = moment; move = Act c s t })).waiting;
    owed = (after w st (record { moment = moment; move = Act c s t })).owed;
    sent = (after w st (record { moment = moment; move = Act c s t })).sent;
    now = moment;
  }) (g.change c s t moment (st.table c) m.2)
  after_by st moment (Out t) m = refl

  -- a run stays one, and leads to the same state
  pub runs_still : (es : List Placed) (st : State) → Runs w st es → Runs v st es × (led v st es ≡ led w st es)
  runs_still [] st r = (tt, refl)
  runs_still (e ∷ es) st r =
      let same : after v st (step_of e) ≡ after w st (step_of e) = after_by st e.at.key.moment e.move r.0.may in
      let rest = runs_still es (after w st (step_of e)) r.1 in (
        (
          record {
            in_order = r.0.in_order;
            may = may_still st e.at.key.moment e.move r.0.may;
            free = free_still st e.at.key.moment e.move r.0.may r.0.free;
          },
          subst (λ (x : State). Runs v x es) (sym same) rest.0,
        ),
        ap (λ (x : State). led v x es) same ∙ rest.1,
      )

  -- ---- and its tenancies stay the same

  acted_same : (moment : ℕ) (move : Move) (x : Option Allocation) → MayAct w moment move x → acted v moment move x ≡ acted w moment move x
  acted_same moment (In s) x m = refl
  acted_same moment (Act c s t) x m = ap (λ (ch : Change). applied ch x) (g.change c s t moment x m)
  acted_same moment (Out t) x m = refl

  running_same : (e : Placed) (move : Move) (x : Option Allocation) (ten : Option Tenancy) → MayAct w e.at.key.moment move x → running v e.at move x ten ≡ running w e.at move x ten
  running_same e (In s) x ten m = refl
  running_same e (Act c s t) x ten m = ap (λ (n : ℕ). running_after n e.at s (v.change c s t e.at.key.moment x) ten) g.grace ∙ ap (λ (ch : Change). running_after w.grace e.at s ch ten) (g.change c s t e.at.key.moment x m)
  running_same e (Out t) x ten m = refl

  ended_same : (e : Placed) (move : Move) (x : Option Allocation) (ten : Option Tenancy) → MayAct w e.at.key.moment move x → ended v e.at move x ten ≡ ended w e.at move x ten
  ended_same e (In s) x ten m = refl
  ended_same e (Act c s t) x ten m = ap (λ (ch : Change). ended_by e.at.key ch ten) (g.change c s t e.at.key.moment x m)
  ended_same e (Out t) x ten m = refl

  pub tenancies_same : (es : List Placed) (x : Option Allocation) (ten : Option Tenancy) → ActsFrom w x es → tenancies_from v x ten es ≡ tenancies_from w x ten es
  tenancies_same [] x ten a = refl
  tenancies_same (e ∷ es) x ten a =
      let k = tenancies_same es (acted w e.at.key.moment e.move x) (running w e.at e.move x ten) a.1 in
      ap (λ (o : Option Tenancy). option_to_list o ++ tenancies_from v (acted v e.at.key.moment e.move x) (running v e.at e.move x ten) es) (ended_same e e.move x ten a.0)
      ∙ ap (λ (y : Option Allocation). option_to_list (ended w e.at e.move x ten) ++ tenancies_from v y (running v e.at e.move x ten) es) (acted_same e.at.key.moment e.move x a.0)
      ∙ ap (λ (o : Option Tenancy). option_to_list (ended w e.at e.move x ten) ++ tenancies_from v (acted w e.at.key.moment e.move x) o es) (running_same e e.move x ten a.0)
      ∙ ap (λ (ts : List Tenancy). option_to_list (ended w e.at e.move x ten) ++ ts) k

  -- and what is remembered
  pub remembered_same : (es : List Placed) (m : Memory) → ActsFrom w m.allocation es → remembered_all v m es ≡ remembered_all w m es
  remembered_same [] m a = refl
  remembered_same (e ∷ es) m a =
      let allocation = acted_same e.at.key.moment e.move m.allocation a.0 in
      let runs = running_same e e.move m.allocation m.runs a.0 in
      let ended_then = ended_same e e.move m.allocation m.runs a.0 in
      let one : remembered v m e ≡ remembered w m e = λ i. record {
        came = came_after m e.at.key.moment e.move;
        taken = taken_after m e.move;
        since = since_after m e.move;
        owing = owing_after m e.at e.move;
        allocation = allocation i;
        runs = runs i;
        ended = m.ended ++ option_to_list (ended_then i);
      } in
      ap (λ n. remembered_all v n es) one ∙ remembered_same es (remembered w m e) a.1
