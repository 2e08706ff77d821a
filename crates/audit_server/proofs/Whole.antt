-- The run of the whole, and the runs of its lanes.
use Rattle.std.proofs.Common.{◌≡◌, ◌≢◌, ◌↔◌, ℕ, true, false, Option, Some, None, List, [], ◌∷◌, ◌++◌, cond, refl, sym, ◌∙◌, ap, subst, ◌==◌}
use Rattle.std.specs.List.{AllByRecursion}
use Rattle.std.specs.declared.cmp.Ordering.TheVariants.{Less}
use Rattle.std.proofs.lemmas.Bool.{eqb-true, eqb-false, eq-eqb, ne_eqb, cond-true, cond-false}
use Rattle.audit_model.specs.declared.address.Addr.{Addr}
use Rattle.audit_model.specs.declared.sighting.SightId.{SightId}
use Rattle.audit_rules.specs.Allocation.{Allocation}
use Rattle.audit_model.proofs.Sames.{client_same}
use Rattle.audit_model.specs.Sames.{same_client}
use Rattle.audit_model.specs.declared.pair.Pair.{Pair}
use Rattle.audit_server.specs.Holding.{HoldsAt, AnyOf}
use Rattle.audit_server.specs.Homes.{IsOfPair, AreOfPairs, AreDistinct}
use Rattle.audit_server.specs.Lawful.{AreLawful}
use Rattle.audit_server.specs.Placed.{at_cmp, Placed, step_of, Runs, led, state_after, of_lane, Rises}
use Rattle.audit_server.specs.Rules.{Rules}
use Rattle.audit_server.specs.Run.{HasAddress, MayMove, Allowed}
use Rattle.audit_server.specs.State.{State, at_first, after, table_after, acted}
use Rattle.audit_server.specs.Step.{Move, In, Act, Out}
use Rattle.audit_server.specs.Tenancies.{tenancies_from, tenancies}
use Rattle.audit_server.proofs.Orders.{all_left, all_filter, all_weaker, rises_before, rises_after}
use Rattle.audit_server.proofs.Local.{put_client, act_pair}
use Rattle.audit_server.proofs.Holding.{ActsFrom, MayAct, acted_all, held_where, InLane}

-- ---- runs and their splits

pub run_of_splits : (w : Rules) (steps : List Placed) (st : State) → ((p : List Placed) (e : Placed) (q : List Placed) → p ++ e ∷ q ≡ steps → Allowed w (led w st p) (step_of e)) → Runs w st steps
run_of_splits w [] st f = tt
run_of_splits w (e ∷ es) st f = (f [] e es refl, run_of_splits w es (after w st (step_of e)) (λ p d q h. f (e ∷ p) d q (ap (λ xs. e ∷ xs) h)))

pub split_of_run : (w : Rules) (p : List Placed) (e : Placed) (q : List Placed) (st : State) → Runs w st (p ++ e ∷ q) → Allowed w (led w st p) (step_of e)
split_of_run w [] e q st r = r.0
split_of_run w (d ∷ p) e q st r = split_of_run w p e q (after w st (step_of d)) r.1

pub all_of_splits : {A : Type 0} (P : A → Type 0) (xs : List A) → ((p : List A) (x : A) (q : List A) → p ++ x ∷ q ≡ xs → P x) → AllByRecursion P xs
all_of_splits P [] f = tt
all_of_splits P (x ∷ xs) f = (f [] x xs refl, all_of_splits P xs (λ p y q h. f (x ∷ p) y q (ap (λ ys. x ∷ ys) h)))

-- ---- a lane's part of a split

pub lane_append : (lane : ℕ) (p q : List Placed) → of_lane lane (p ++ q) ≡ of_lane lane p ++ of_lane lane q
lane_append lane [] q = refl
lane_append lane (e ∷ p) q = elim (e.at.lane == lane) as (λ b. cond b (e ∷ of_lane lane (p ++ q)) (of_lane lane (p ++ q)) ≡ (cond b (e ∷ of_lane lane p) (of_lane lane p)) ++ of_lane lane q) [
  | true ↦ ap (λ xs. e ∷ xs) (lane_append lane p q)
  | false ↦ lane_append lane p q
]

pub lane_split : (lane : ℕ) (p : List Placed) (e : Placed) (q : List Placed) → e.at.lane ≡ lane → of_lane lane (p ++ e ∷ q) ≡ of_lane lane p ++ e ∷ of_lane lane q
lane_split lane p e q h = lane_append lane p (e ∷ q) ∙ ap (λ xs. of_lane lane p ++ xs) (cond-true (e.at.lane == lane) (e ∷ of_lane lane q) (of_lane lane q) (eq-eqb e.at.lane lane h))

pub lane_split_other : (lane : ℕ) (p : List Placed) (e : Placed) (q : List Placed) → e.at.lane ≢ lane → of_lane lane (p ++ e ∷ q) ≡ of_lane lane p ++ of_lane lane q
lane_split_other lane p e q h = lane_append lane p (e ∷ q) ∙ ap (λ xs. of_lane lane p ++ xs) (cond-false (e.at.lane == lane) (e ∷ of_lane lane q) (of_lane lane q) (ne_eqb e.at.lane lane h))

-- what holds of each step in terms of its lane, holds of those of a lane at that lane
pub all_of_lane : (P : ℕ → Placed → Type 0) (lane : ℕ) (steps : List Placed) → AllByRecursion (λ e. P e.at.lane e) steps → AllByRecursion (P lane) (of_lane lane steps)
all_of_lane P lane [] h = tt
all_of_lane P lane (e ∷ es) h = elim (e.at.lane == lane) as (λ b. (e.at.lane == lane) ≡ b → AllByRecursion (P lane) (cond b (e ∷ of_lane lane es) (of_lane lane es))) [
  | true ↦ λ q. (subst (λ (n : ℕ). P n e) (eqb-true e.at.lane lane q) h.0, all_of_lane P lane es h.1)
  | false ↦ λ q. all_of_lane P lane es h.1
] refl

pub lane_is : (lane : ℕ) (steps : List Placed) → InLane lane (of_lane lane steps)
lane_is lane steps = all_of_lane (λ n (e : Placed). e.at.lane ≡ n) lane steps (same steps) where
  same : (es : List Placed) → AllByRecursion (λ (e : Placed). e.at.lane ≡ e.at.lane) es
  same [] = tt
  same (e ∷ es) = (refl, same es)

-- ---- the table on a pair

-- acts are of this pair
abbrev pub OnlyOf : Pair → Move → Type 0
OnlyOf pair move = (c : Pair) (s t : SightId) → move ≡ Act c s t → c ≡ pair

some_is : (a b : Pair) → Some a ≡ Some b → a ≡ b
some_is a b h = let k : a ≡ b = cc in k

pub own_pair : (pairs : ℕ → Option Pair) (lane : ℕ) (pair : Pair) → pairs lane ≡ Some pair → (move : Move) → IsOfPair pairs lane move → OnlyOf pair move
own_pair pairs lane pair is move h c s t e = some_is c pair (sym (act_pair pairs lane move h c s t e) ∙ is)

module _ (w : Rules) (pair : Pair) where
  pub table_same : (st : State) (moment : ℕ) (move : Move) → OnlyOf pair move → table_after w st moment move pair ≡ acted w moment move (st.table pair)
  table_same st moment (In s) p = refl
  table_same st moment (Act c s t) p =
      let e : c ≡ pair = p c s t refl in
      cond-true (same_client pair c) (acted w moment (Act c s t) (st.table c)) (st.table pair) (client_same pair c (sym e)) ∙ ap (λ (d : Pair). acted w moment (Act c s t) (st.table d)) e
  table_same st moment (Out t) p = refl

  pub table_other : (st : State) (moment : ℕ) (move : Move) → ((c : Pair) (s t : SightId) → move ≡ Act c s t → c ≢ pair) → table_after w st moment move pair ≡ st.table pair
  table_other st moment (In s) p = refl
  table_other st moment (Act c s t) p = put_client st.table c (acted w moment (Act c s t) (st.table c)) pair (λ e. p c s t refl (sym e))
  table_other st moment (Out t) p = refl

module _ (w : Rules) (pairs : ℕ → Option Pair) (distinct : AreDistinct pairs) (lane : ℕ) (pair : Pair) (is : pairs lane ≡ Some pair) where
  -- on each pair, the table is what the lane's own steps make of it
  pub table_is : (steps : List Placed) (st : State) → AreOfPairs pairs steps → (led w st steps).table pair ≡ acted_all w (st.table pair) (of_lane lane steps)
  table_is [] st p = refl
  table_is (e ∷ es) st p = elim (e.at.lane == lane) as (λ b. (e.at.lane == lane) ≡ b → (led w (after w st (step_of e)) es).table pair ≡ acted_all w (st.table pair) (cond b (e ∷ of_lane lane es) (of_lane lane es))) [
    | true ↦ λ q.
        let here : e.at.lane ≡ lane = eqb-true e.at.lane lane q in
        table_is es (after w st (step_of e)) p.1 ∙ ap (λ x. acted_all w x (of_lane lane es)) (table_same w pair st e.at.key.moment e.move (own_pair pairs lane pair is e.move (subst (λ (n : ℕ). IsOfPair pairs n e.move) here p.0)))
    | false ↦ λ q.
        let there : e.at.lane ≢ lane = eqb-false e.at.lane lane q in
        table_is es (after w st (step_of e)) p.1 ∙ ap (λ x. acted_all w x (of_lane lane es)) (table_other w pair st e.at.key.moment e.move (λ c s t m h. there (distinct e.at.lane lane pair (act_pair pairs e.at.lane e.move p.0 c s t m ∙ ap Some h) is)))
  ] refl

-- a lane that is a run answers by its own allocation
may_act : (w : Rules) (pair : Pair) (st : State) (moment : ℕ) (move : Move) → OnlyOf pair move → MayMove w st moment move → MayAct w moment move (st.table pair)
may_act w pair st moment (In s) p m = tt
may_act w pair st moment (Act c s t) p m = subst (λ (d : Pair). w.MayAnswer c s t moment (st.table d)) (p c s t refl) m.2
may_act w pair st moment (Out t) p m = tt

pub acts_of_run : (w : Rules) (pair : Pair) (steps : List Placed) (st : State) → AllByRecursion (λ e. OnlyOf pair e.move) steps → Runs w st steps → ActsFrom w (st.table pair) steps
acts_of_run w pair [] st p r = tt
acts_of_run w pair (e ∷ es) st p r = (
  may_act w pair st e.at.key.moment e.move p.0 r.0.may,
  subst (λ (x : Option Allocation). ActsFrom w x es) (table_same w pair st e.at.key.moment e.move p.0) (acts_of_run w pair es (after w st (step_of e)) p.1 r.1),
)

-- the acts of a lane are of its pair
pub lane_acts : (pairs : ℕ → Option Pair) (lane : ℕ) (pair : Pair) → pairs lane ≡ Some pair → (steps : List Placed) → AreOfPairs pairs steps → AllByRecursion (λ e. OnlyOf pair e.move) (of_lane lane steps)
lane_acts pairs lane pair is steps p =
    all_weaker (λ e. IsOfPair pairs lane e.move) (λ e. OnlyOf pair e.move) (λ e. own_pair pairs lane pair is e.move) (of_lane lane steps)
    (all_of_lane (λ n e. IsOfPair pairs n e.move) lane steps p)

-- at each step, another pair's allocation is usable exactly where its tenancy holds the address by its final end
pub held : (w : Rules) → AreLawful w → (pairs : ℕ → Option Pair) → AreDistinct pairs → (p : List Placed) (e : Placed) (q : List Placed) → Rises (p ++ e ∷ q) → AreOfPairs pairs (p ++ e ∷ q) →
    (other : ℕ) (pair : Pair) → pairs other ≡ Some pair → e.at.lane ≢ other → Runs w at_first (of_lane other (p ++ e ∷ q)) → (relayed : Addr) →
    HasAddress w.grace e.at.key.moment relayed ((state_after w p).table pair) ↔ AnyOf (HoldsAt e.at relayed) (tenancies w other (p ++ e ∷ q))
held w law pairs distinct p e q up of other pair is ne run relayed =
    let whole : of_lane other (p ++ e ∷ q) ≡ of_lane other p ++ of_lane other q = lane_split_other other p e q ne in
    let acts : ActsFrom w None (of_lane other (p ++ e ∷ q)) = acts_of_run w pair (of_lane other (p ++ e ∷ q)) at_first (lane_acts pairs other pair is (p ++ e ∷ q) of) run in
    let a = all_filter (λ d. at_cmp d.at e.at ≡ Less) (λ d. d.at.lane == other) p (rises_before p e q up) in
    let b = all_filter (λ d. at_cmp e.at d.at ≡ Less) (λ d. d.at.lane == other) q (rises_after p e q up) in
    let t : (state_after w p).table pair ≡ acted_all w None (of_lane other p) = table_is w pairs distinct other pair is p at_first (all_left (λ d. IsOfPair pairs d.at.lane d.move) p (e ∷ q) of) in
    let k = held_where w law other e.at relayed (of_lane other p) (of_lane other q) (lane_is other p) (lane_is other q) a b (subst (λ (xs : List Placed). ActsFrom w None xs) whole acts) in (
      λ h. subst (λ (xs : List Placed). AnyOf (HoldsAt e.at relayed) (tenancies_from w None None xs)) (sym whole) (k.0 (subst (λ (x : Option Allocation). HasAddress w.grace e.at.key.moment relayed x) t h)),
      λ h. subst (λ (x : Option Allocation). HasAddress w.grace e.at.key.moment relayed x) (sym t) (k.1 (subst (λ (xs : List Placed). AnyOf (HoldsAt e.at relayed) (tenancies_from w None None xs)) whole h)),
    )
