-- What a lane finds of the server where departures are kept for each lane apart is what its own steps make.
use Rattle.std.proofs.Common.{◌≡◌, ◌≢◌, ◌≤◌, ℕ, Bool, true, false, Option, Some, None, List, [], ◌∷◌, ◌++◌, cond, refl, sym, ◌∙◌, ap, subst, arith, ◌==◌, map}
use Rattle.std.specs.List.{AllByRecursion}
use Rattle.std.specs.declared.cmp.Ordering.TheVariants.{Less}
use Rattle.std.proofs.lemmas.Bool.{eqb-true, eqb-false, eq-eqb, ne_eqb, cond-true, cond-false}
use Rattle.audit_model.specs.declared.event.At.{At}
use Rattle.audit_model.specs.declared.sighting.SightId.{SightId}
use Rattle.audit_model.specs.declared.verdict.Tenancy.{Tenancy}
use Rattle.audit_rules.specs.Allocation.{Allocation, Change, Same, Makes, Renews, Grants, Binds, Removes}
use Rattle.audit_server.specs.Rules.{Rules}
use Rattle.audit_model.specs.declared.pair.Pair.{Pair}
use Rattle.audit_server.specs.State.{State, at_first, after, table_after, acted, put}
use Rattle.audit_server.specs.Run.{HasAddress, InTime, MayMove, IsFree, HandsOutFree, Allowed}
use Rattle.audit_model.specs.Sames.{same_sight, same_client}
use Rattle.audit_server.specs.Step.{Move, In, Act, Out}
use Rattle.audit_server.specs.Placed.{at_cmp, Placed, step_of, Runs, led, state_after, of_lane, Rises}
use Rattle.audit_server.specs.Holding.{AnyOf, HoldsAt, NoClash}
use Rattle.audit_server.specs.Tenancies.{tenancies, tenancies_from}
use Rattle.audit_server.specs.Homes.{IsOfPair, AreOfPairs, AreDistinct}
use Rattle.audit_server.specs.Lawful.{AreLawful}
use Rattle.audit_server.specs.Placing.{times_placed}
use Rattle.audit_model.proofs.Sames.{sight_true, sight_same}
use Rattle.audit_server.proofs.Orders.{moment_le, all_left, all_right, all_weaker, rises_before}
use Rattle.audit_server.proofs.Local.{put_sight, put_client, act_pair, ActsOn}
use Rattle.audit_server.proofs.Whole.{split_of_run, lane_split, all_of_lane, held, table_is}
use Rattle.audit_server.proofs.Both.{seated_all, has_lane, made_at}
use Rattle.audit_server.proofs.Placing.{PlacesAt, placed_lane, placed_at, from_lanes}
use Rattle.audit_prefix.specs.Apart.{Shared, none_yet, found_by, same_lane, with_lane, stepped, RunsApart, led_apart}

pub apart_of_splits : (w : Rules) (steps : List Placed) (st : Shared) → ((p : List Placed) (e : Placed) (q : List Placed) → p ++ e ∷ q ≡ steps → Allowed w (found_by e.at.lane (led_apart w st p)) (step_of e)) → RunsApart w st steps
apart_of_splits w [] st f = tt
apart_of_splits w (e ∷ es) st f = (f [] e es refl, apart_of_splits w es (stepped w st e) (λ p d q h. f (e ∷ p) d q (ap (λ xs. e ∷ xs) h)))

-- the table and the moment are those of the one server
pub same_table : (w : Rules) (steps : List Placed) (st : Shared) (one : State) → st.table ≡ one.table → st.now ≡ one.now → ((led_apart w st steps).table ≡ (led w one steps).table) × ((led_apart w st steps).now ≡ (led w one steps).now)
same_table w [] st one h k = (h, k)
same_table w (e ∷ es) st one h k = same_table w es (stepped w st e) (after w one (step_of e)) (by_move e.move) refl where
  by_move : (m : Move) → table_after w (found_by e.at.lane st) e.at.key.moment m ≡ table_after w one e.at.key.moment m
  by_move (In s) = h
  by_move (Act c s t) = ap (λ (f : Pair → Option Allocation). put same_client f c (acted w e.at.key.moment (Act c s t) (f c))) h
  by_move (Out t) = h

put_lane : {A : Type 0} (f : ℕ → A) (lane : ℕ) (x : A) (other : ℕ) → other ≢ lane → put same_lane f lane x other ≡ f other
put_lane f lane x other ne = cond-false (other == lane) x (f other) (ne_eqb other lane ne)

put_own : {A : Type 0} (f : ℕ → A) (lane : ℕ) (x : A) (other : ℕ) → other ≡ lane → put same_lane f lane x other ≡ x
put_own f lane x other e = cond-true (other == lane) x (f other) (eq-eqb other lane e)

-- what a step takes or places came in at home
abbrev pub TakesAtHome : (SightId → ℕ) → ℕ → Move → Type 0
TakesAtHome home lane (In s) = home s ≡ lane
TakesAtHome home lane (Act c s t) = home s ≡ lane
TakesAtHome home lane (Out t) = Unit {0}

-- as far as the lane's pair and arrivals go, and its own departures, the lane finds what it made
pub record Finds (home : SightId → ℕ) (lane : ℕ) (pair : Option Pair) (st : Shared) (own : State) : Type 0 where
  pub table : (c : Pair) → pair ≡ Some c → st.table c ≡ own.table c
  pub waiting : (s : SightId) → home s ≡ lane → st.waiting s ≡ own.waiting s
  pub owed : (t : SightId) → st.owed lane t ≡ own.owed t
  pub sent : (t : SightId) → st.sent lane t ≡ own.sent t

module _ (w : Rules) (home : SightId → ℕ) (lane : ℕ) (pair : Option Pair) where
  own_step : (st : Shared) (own : State) (moment : ℕ) (move : Move) → Finds home lane pair st own → TakesAtHome home lane move → ActsOn pair move →
      Finds home lane pair (with_lane st lane (after w (found_by lane st) (record { moment = moment; move = move }))) (after w own (record { moment = moment; move = move }))
  own_step st own moment (In s) f n p = record {
    table = f.table;
    waiting = λ q h. ap (λ y. cond (same_sight q s) (Some moment) y) (f.waiting q h);
    owed = λ q. ap (λ (g : SightId → Option ℕ). g q) (put_own st.owed lane (st.owed lane) lane refl) ∙ f.owed q;
    sent = λ q. ap (λ (g : SightId → Bool). g q) (put_own st.sent lane (st.sent lane) lane refl) ∙ f.sent q;
  }
  own_step st own moment (Act d s t) f n p = record {
    table = λ c h. ap (λ y. cond (same_client c d) (acted w moment (Act d s t) y) (st.table c)) (f.table d (p d s t refl)) ∙ ap (λ y. cond (same_client c d) (acted w moment (Act d s t) (own.table d)) y) (f.table c h);
    waiting = λ q h. ap (λ y. cond (same_sight q s) None y) (f.waiting q h);
    owed = λ q. ap (λ (g : SightId → Option ℕ). g q) (put_own st.owed lane (put same_sight (st.owed lane) t (st.waiting s)) lane refl) ∙ ap (λ y. cond (same_sight q t) y (st.owed lane q)) (f.waiting s n) ∙ ap (λ y. cond (same_sight q t) (own.waiting s) y) (f.owed q);
    sent = λ q. ap (λ (g : SightId → Bool). g q) (put_own st.sent lane (put same_sight (st.sent lane) t true) lane refl) ∙ ap (λ y. cond (same_sight q t) true y) (f.sent q);
  }
  own_step st own moment (Out t) f n p = record {
    table = f.table;
    waiting = f.waiting;
    owed = λ q. ap (λ (g : SightId → Option ℕ). g q) (put_own st.owed lane (put same_sight (st.owed lane) t None) lane refl) ∙ ap (λ y. cond (same_sight q t) None y) (f.owed q);
    sent = λ q. ap (λ (g : SightId → Bool). g q) (put_own st.sent lane (st.sent lane) lane refl) ∙ f.sent q;
  }

  away : (other : ℕ) (s q : SightId) → other ≢ lane → home s ≡ other → home q ≡ lane → q ≢ s
  away other s q ne n h e = ne (sym n ∙ ap home (sym e) ∙ h)

  others_step : (st : Shared) (own : State) (other moment : ℕ) (move : Move) → Finds home lane pair st own → other ≢ lane → TakesAtHome home other move →
      ((c : Pair) (s t : SightId) → move ≡ Act c s t → pair ≢ Some c) →
      Finds home lane pair (with_lane st other (after w (found_by other st) (record { moment = moment; move = move }))) own
  others_step st own other moment (In s) f ne n p = record {
    table = f.table;
    waiting = λ q h. put_sight st.waiting s (Some moment) q (away other s q ne n h) ∙ f.waiting q h;
    owed = λ q. ap (λ (g : SightId → Option ℕ). g q) (put_lane st.owed other (st.owed other) lane (λ e. ne (sym e))) ∙ f.owed q;
    sent = λ q. ap (λ (g : SightId → Bool). g q) (put_lane st.sent other (st.sent other) lane (λ e. ne (sym e))) ∙ f.sent q;
  }
  others_step st own other moment (Act d s t) f ne n p = record {
    table = λ c h. put_client st.table d (acted w moment (Act d s t) (st.table d)) c (λ e. p d s t refl (h ∙ ap Some e)) ∙ f.table c h;
    waiting = λ q h. put_sight st.waiting s None q (away other s q ne n h) ∙ f.waiting q h;
    owed = λ q. ap (λ (g : SightId → Option ℕ). g q) (put_lane st.owed other (put same_sight (st.owed other) t (st.waiting s)) lane (λ e. ne (sym e))) ∙ f.owed q;
    sent = λ q. ap (λ (g : SightId → Bool). g q) (put_lane st.sent other (put same_sight (st.sent other) t true) lane (λ e. ne (sym e))) ∙ f.sent q;
  }
  others_step st own other moment (Out t) f ne n p = record {
    table = f.table;
    waiting = f.waiting;
    owed = λ q. ap (λ (g : SightId → Option ℕ). g q) (put_lane st.owed other (put same_sight (st.owed other) t None) lane (λ e. ne (sym e))) ∙ f.owed q;
    sent = λ q. ap (λ (g : SightId → Bool). g q) (put_lane st.sent other (st.sent other) lane (λ e. ne (sym e))) ∙ f.sent q;
  }

abbrev pub TakeAtHome : (SightId → ℕ) → List Placed → Type 0
TakeAtHome home steps = AllByRecursion (λ (e : Placed). TakesAtHome home e.at.lane e.move) steps

pub finds_first : (home : SightId → ℕ) (lane : ℕ) (pair : Option Pair) → Finds home lane pair none_yet at_first
finds_first home lane pair = record { table = λ _ _. refl; waiting = λ _ _. refl; owed = λ _. refl; sent = λ _. refl }

pub finds_all : (w : Rules) (home : SightId → ℕ) (pairs : ℕ → Option Pair) (lane : ℕ) → AreDistinct pairs →
    (steps : List Placed) (st : Shared) (own : State) → TakeAtHome home steps → AreOfPairs pairs steps → Finds home lane (pairs lane) st own →
    Finds home lane (pairs lane) (led_apart w st steps) (led w own (of_lane lane steps))
finds_all w home pairs lane distinct [] st own n p f = f
finds_all w home pairs lane distinct (e ∷ es) st own n p f =
    elim (e.at.lane == lane) as (λ b. (e.at.lane == lane) ≡ b → Finds home lane (pairs lane) (led_apart w (stepped w st e) es) (led w own (cond b (e ∷ of_lane lane es) (of_lane lane es)))) [
      | true ↦ λ q.
          let here : e.at.lane ≡ lane = eqb-true e.at.lane lane q in
          finds_all w home pairs lane distinct es (stepped w st e) (after w own (step_of e)) n.1 p.1
          (subst (λ (m : ℕ). Finds home lane (pairs lane) (with_lane st m (after w (found_by m st) (step_of e))) (after w own (step_of e))) (sym here)
          (own_step w home lane (pairs lane) st own e.at.key.moment e.move f (rw here at n.0) (act_pair pairs lane e.move (rw here at p.0))))
      | false ↦ λ q.
          let there : e.at.lane ≢ lane = eqb-false e.at.lane lane q in
          finds_all w home pairs lane distinct es (stepped w st e) own n.1 p.1
          (others_step w home lane (pairs lane) st own e.at.lane e.at.key.moment e.move f there n.0
          (λ c s t m h. there (distinct e.at.lane lane c (act_pair pairs e.at.lane e.move p.0 c s t m) h)))
    ] refl

-- ---- in a lane that is a run, an act takes what came in there

not_none : (w : Rules) (x : Option ℕ) (moment : ℕ) → InTime w x moment → x ≢ None
not_none w None moment h e = h
not_none w (Some m) moment h e = absurd (let k : Some m ≡ None = e in cc)

module _ (w : Rules) (home : SightId → ℕ) (lane : ℕ) where
  takes : (st : State) (moment : ℕ) (move : Move) → Allowed w st (record { moment = moment; move = move }) → PlacesAt home lane move → ((s : SightId) → st.waiting s ≢ None → home s ≡ lane) →
      TakesAtHome home lane move × ((s : SightId) → (after w st (record { moment = moment; move = move })).waiting s ≢ None → home s ≡ lane)
  takes st moment (In x) a p wait = (
    p x (sight_same x x refl),
    λ s k. elim (same_sight s x) as (λ b. same_sight s x ≡ b → cond b (Some moment) (st.waiting s) ≢ None → home s ≡ lane) [
      | true ↦ λ q j. ap home (sight_true s x q) ∙ p x (sight_same x x refl)
      | false ↦ λ q j. wait s j
    ] refl k,
  )
  takes st moment (Act c x y) a p wait = (
    wait x (not_none w (st.waiting x) moment a.may.0),
    λ s k. elim (same_sight s x) as (λ b. cond b None (st.waiting s) ≢ None → home s ≡ lane) [ true ↦ λ j. absurd (j refl) | false ↦ λ j. wait s j ] k,
  )
  takes st moment (Out y) a p wait = (tt, wait)

  all_take : (es : List Placed) (st : State) → Runs w st es → AllByRecursion (λ (e : Placed). PlacesAt home lane e.move) es → ((s : SightId) → st.waiting s ≢ None → home s ≡ lane) → AllByRecursion (λ (e : Placed). TakesAtHome home lane e.move) es
  all_take [] st r p wait = tt
  all_take (e ∷ es) st r p wait =
      let k = takes st e.at.key.moment e.move r.0 p.0 wait in
      (k.0, all_take es (after w st (step_of e)) r.1 p.1 k.1)

pub take_at_home : (w : Rules) (steps : List Placed) → ((s : SightId) → times_placed s (map step_of steps) ≤ 1) → ((lane : ℕ) → Runs w at_first (of_lane lane steps)) → TakeAtHome (placed_lane steps) steps
take_at_home w steps n runs =
    from_lanes (λ lane e. TakesAtHome (placed_lane steps) lane e.move) steps (λ lane.
    all_take w (placed_lane steps) lane (of_lane lane steps) at_first (runs lane)
    (all_of_lane (λ m e. PlacesAt (placed_lane steps) m e.move) lane steps (placed_at steps n)) (λ s k. absurd (k refl)))

-- ---- from the lanes to the whole

pub record Lanes (w : Rules) (pairs : ℕ → Option Pair) (steps : List Placed) : Type 0 where
  pub rises : Rises steps
  pub of_pairs : AreOfPairs pairs steps
  pub runs : (lane : ℕ) → Runs w at_first (of_lane lane steps)
  pub apart : NoClash w steps

may_from : (w : Rules) (home : SightId → ℕ) (lane : ℕ) (pair : Option Pair) (st : Shared) (own : State) (moment : ℕ) (move : Move) → Finds home lane pair st own → TakesAtHome home lane move →
    ActsOn pair move → MayMove w own moment move → MayMove w (found_by lane st) moment move
may_from w home lane pair st own moment (In s) f n p m = tt
may_from w home lane pair st own moment (Act c s t) f n p m = (
  subst (λ (x : Option ℕ). InTime w x moment) (sym (f.waiting s n)) m.0,
  f.sent t ∙ m.1,
  subst (λ (x : Option Allocation). w.MayAnswer c s t moment x) (sym (f.table c (p c s t refl))) m.2,
)
may_from w home lane pair st own moment (Out t) f n p m = subst (λ (x : Option ℕ). InTime w x moment) (sym (f.owed t)) m

now_le : (w : Rules) (moment : ℕ) (p : List Placed) (st : State) → st.now ≤ moment → AllByRecursion (λ (d : Placed). d.at.key.moment ≤ moment) p → (led w st p).now ≤ moment
now_le w moment [] st h a = h
now_le w moment (d ∷ p) st h a = now_le w moment p (after w st (step_of d)) a.0 a.1

module _ (w : Rules) (law : AreLawful w) (pairs : ℕ → Option Pair) (distinct : AreDistinct pairs) where
  free_here : (p : List Placed) (at : At) (c : Pair) (s t : SightId) (q : List Placed) → Lanes w pairs (p ++ record { at = at; move = Act c s t } ∷ q) → (ch : Change) → w.change c s t at.key.moment ((state_after w p).table c) ≡ ch → IsFree w (state_after w p) at.key.moment c ch
  free_here p at c s t q f Same e = tt
  free_here p at c s t q f (Makes made) e = λ other ne h.
      let all : List Placed = p ++ record { at = at; move = Act c s t } ∷ q in
      let before : AreOfPairs pairs p = all_left (λ (d : Placed). IsOfPair pairs d.at.lane d.move) p (record { at = at; move = Act c s t } ∷ q) f.of_pairs in
      let own : pairs at.lane ≡ Some c = (all_right (λ (d : Placed). IsOfPair pairs d.at.lane d.move) p (record { at = at; move = Act c s t } ∷ q) f.of_pairs).0 in
      let found : (i : ℕ) × (pairs i ≡ Some other) = has_lane pairs w.grace at.key.moment other made.relayed ((state_after w p).table other) (seated_all w pairs p at_first before (λ _. tt) other) h in
      let differ : at.lane ≢ found.0 = λ k. ne (let m : Some other ≡ Some c = sym found.1 ∙ ap pairs (sym k) ∙ own in let n : other ≡ c = cc in n) in
      let holds : AnyOf (HoldsAt at made.relayed) (tenancies w found.0 all) = (held w law pairs distinct p (record { at = at; move = Act c s t }) q f.rises f.of_pairs found.0 other found.1 differ (f.runs found.0) made.relayed).0 h in
      made_at w (λ b r. AnyOf (HoldsAt b r) (tenancies w found.0 all) → ⊥) (of_lane at.lane p) at c s t made (of_lane at.lane q) None None
      (subst (λ (x : Option Allocation). w.change c s t at.key.moment x ≡ Makes made) (table_is w pairs distinct at.lane c own p at_first before) e)
      (subst (λ (xs : List Placed). AllByRecursion (λ (u : Tenancy). AnyOf (HoldsAt u.born u.relayed) (tenancies w found.0 all) → ⊥) (tenancies_from w None None xs))
      (lane_split at.lane p (record { at = at; move = Act c s t }) q refl) (f.apart at.lane found.0 differ)) holds
  free_here p at c s t q f (Renews until) e = tt
  free_here p at c s t q f (Grants ips until) e = tt
  free_here p at c s t q f (Binds number peer until permitted) e = tt
  free_here p at c s t q f Removes e = tt

  free_at : (p : List Placed) (at : At) (move : Move) (q : List Placed) → Lanes w pairs (p ++ record { at = at; move = move } ∷ q) → HandsOutFree w (state_after w p) at.key.moment move
  free_at p at (In s) q f = tt
  free_at p at (Act c s t) q f = free_here p at c s t q f (w.change c s t at.key.moment ((state_after w p).table c)) refl
  free_at p at (Out t) q f = tt

  free_change : (one other : State) → one.table ≡ other.table → (moment : ℕ) (c : Pair) (ch : Change) → IsFree w one moment c ch → IsFree w other moment c ch
  free_change one other h moment c Same f = tt
  free_change one other h moment c (Makes made) f = λ who ne k. f who ne (subst (λ (t : Pair → Option Allocation). HasAddress w.grace moment made.relayed (t who)) (sym h) k)
  free_change one other h moment c (Renews until) f = tt
  free_change one other h moment c (Grants ips until) f = tt
  free_change one other h moment c (Binds number peer until permitted) f = tt
  free_change one other h moment c Removes f = tt

  free_table : (one other : State) → one.table ≡ other.table → (moment : ℕ) (move : Move) → HandsOutFree w one moment move → HandsOutFree w other moment move
  free_table one other h moment (In s) f = tt
  free_table one other h moment (Act c s t) f = subst (λ (tb : Pair → Option Allocation). IsFree w other moment c (w.change c s t moment (tb c))) h (free_change one other h moment c (w.change c s t moment (one.table c)) f)
  free_table one other h moment (Out t) f = tt

  allowed_at : (home : SightId → ℕ) (p : List Placed) (e : Placed) (q : List Placed) → TakeAtHome home (p ++ e ∷ q) → Lanes w pairs (p ++ e ∷ q) → Allowed w (found_by e.at.lane (led_apart w none_yet p)) (step_of e)
  allowed_at home p e q takes f =
      let lane : ℕ = e.at.lane in
      let at_home : TakeAtHome home p = all_left (λ (d : Placed). TakesAtHome home d.at.lane d.move) p (e ∷ q) takes in
      let here : TakesAtHome home lane e.move = (all_right (λ (d : Placed). TakesAtHome home d.at.lane d.move) p (e ∷ q) takes).0 in
      let of_pairs : AreOfPairs pairs p = all_left (λ (d : Placed). IsOfPair pairs d.at.lane d.move) p (e ∷ q) f.of_pairs in
      let own : IsOfPair pairs lane e.move = (all_right (λ (d : Placed). IsOfPair pairs d.at.lane d.move) p (e ∷ q) f.of_pairs).0 in
      let finds : Finds home lane (pairs lane) (led_apart w none_yet p) (state_after w (of_lane lane p)) = finds_all w home pairs lane distinct p none_yet at_first at_home of_pairs (finds_first home lane (pairs lane)) in
      let alone : Allowed w (state_after w (of_lane lane p)) (step_of e) = split_of_run w (of_lane lane p) e (of_lane lane q) at_first (subst (λ (xs : List Placed). Runs w at_first xs) (lane_split lane p e q refl) (f.runs lane)) in
      let order = all_weaker (λ (d : Placed). at_cmp d.at e.at ≡ Less) (λ (d : Placed). d.at.key.moment ≤ e.at.key.moment) (λ d h. moment_le d.at e.at h) p (rises_before p e q f.rises) in
      let same = same_table w p none_yet at_first refl refl in
      record {
        in_order = subst (λ (n : ℕ). n ≤ e.at.key.moment) (sym same.1) (now_le w e.at.key.moment p at_first (omega arith) order);
        may = may_from w home lane (pairs lane) (led_apart w none_yet p) (state_after w (of_lane lane p)) e.at.key.moment e.move finds here (act_pair pairs lane e.move own) alone.may;
        free = free_table (state_after w p) (found_by lane (led_apart w none_yet p)) (sym same.0) e.at.key.moment e.move (free_at p e.at e.move q f);
      }

  -- where each lane is a run, no sighting is placed twice and no tenancies clash, the whole is a run with departures kept apart
  pub runs_apart : (steps : List Placed) → ((s : SightId) → times_placed s (map step_of steps) ≤ 1) → Lanes w pairs steps → RunsApart w none_yet steps
  runs_apart steps once f =
      let home : TakeAtHome (placed_lane steps) steps = take_at_home w steps once f.runs in
      apart_of_splits w steps none_yet (λ p e q h. allowed_at (placed_lane steps) p e q (subst (TakeAtHome (placed_lane steps)) (sym h) home) (subst (λ (xs : List Placed). Lanes w pairs xs) (sym h) f))
