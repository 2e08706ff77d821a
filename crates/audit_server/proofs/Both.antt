-- The whole is a run exactly where each lane is and no tenancies clash.
use Rattle.std.proofs.Common.{◌≡◌, ◌≢◌, ◌≤◌, inl, inr, ℕ, true, false, Option, Some, None, List, [], ◌∷◌, ◌++◌, cond, refl, sym, ◌∙◌, ap, subst, arith, ◌==◌}
use Rattle.std.specs.List.{AllByRecursion}
use Rattle.std.specs.declared.cmp.Ordering.TheVariants.{Less}
use Rattle.std.proofs.lemmas.Bool.{eqb-true, eqb-false, cases_eq, cond-true, cond-false}
use Rattle.audit_model.specs.declared.address.Addr.{Addr}
use Rattle.audit_model.specs.declared.event.At.{At}
use Rattle.audit_model.specs.declared.sighting.SightId.{SightId}
use Rattle.audit_model.specs.declared.verdict.Tenancy.{Tenancy}
use Rattle.audit_rules.specs.Allocation.{Allocation, Change, Same, Makes, Renews, Grants, Binds, Removes}
use Rattle.audit_rules.specs.Tenancies.{running_after, ended_by}
use Rattle.audit_model.proofs.Sames.{client_true}
use Rattle.audit_model.specs.Sames.{same_client}
use Rattle.audit_model.specs.declared.pair.Pair.{Pair}
use Rattle.audit_server.specs.Holding.{HoldsAt, AnyOf, NoClash}
use Rattle.audit_server.specs.Homes.{NamesAtHome, StandAtHome, IsOfPair, AreOfPairs, AreDistinct}
use Rattle.audit_server.specs.Lawful.{AreLawful}
use Rattle.audit_server.specs.Placed.{at_cmp, Placed, step_of, Runs, led, state_after, of_lane, Rises}
use Rattle.audit_server.specs.Rules.{Rules}
use Rattle.audit_server.specs.Run.{HasAddress, InTime, MayMove, IsFree, HandsOutFree, Allowed}
use Rattle.audit_server.specs.State.{State, at_first, after, table_after, acted}
use Rattle.audit_server.specs.Step.{Move, In, Act, Out}
use Rattle.audit_server.specs.Tenancies.{running, ended, tenancies_from, tenancies}
use Rattle.std.specs.Prelude.{option_to_list}
use Rattle.audit_server.proofs.Orders.{moment_le, all_append, all_left, all_right, all_weaker, rises_before}
use Rattle.audit_server.proofs.Local.{Agree, agree_all, put_client, put_sight, act_pair, same_step, other_step, ActsOn}
use Rattle.audit_server.proofs.Holding.{acted_all}
use Rattle.audit_server.proofs.Whole.{run_of_splits, split_of_run, lane_split, all_of_lane, held, table_is}

-- ---- what a step needs is seen by its lane

pub may_to : (w : Rules) (home : SightId → ℕ) (lane : ℕ) (pair : Option Pair) (st own : State) (moment : ℕ) (move : Move) → Agree home lane pair st own → NamesAtHome home lane move →
    ActsOn pair move → MayMove w st moment move → MayMove w own moment move
may_to w home lane pair st own moment (In s) a n p m = tt
may_to w home lane pair st own moment (Act c s t) a n p m = (
  subst (λ (x : Option ℕ). InTime w x moment) (a.waiting s n.0) m.0,
  sym (a.sent t n.1) ∙ m.1,
  subst (λ (x : Option Allocation). w.MayAnswer c s t moment x) (a.table c (p c s t refl)) m.2,
)
may_to w home lane pair st own moment (Out t) a n p m = subst (λ (x : Option ℕ). InTime w x moment) (a.owed t n) m

pub back : (home : SightId → ℕ) (lane : ℕ) (pair : Option Pair) (st own : State) → Agree home lane pair st own → Agree home lane pair own st
back home lane pair st own a = record {
  table = λ c h. sym (a.table c h);
  waiting = λ s h. sym (a.waiting s h);
  owed = λ s h. sym (a.owed s h);
  sent = λ s h. sym (a.sent s h);
}

pub agree_first : (home : SightId → ℕ) (lane : ℕ) (pair : Option Pair) → Agree home lane pair at_first at_first
agree_first home lane pair = record { table = λ _ _. refl; waiting = λ _ _. refl; owed = λ _ _. refl; sent = λ _ _. refl }

-- ---- a table has allocations only at pairs of lanes

abbrev pub IsSeated : (ℕ → Option Pair) → Pair → Option Allocation → Type 0
IsSeated pairs c None = Unit {0}
IsSeated pairs c (Some a) = (lane : ℕ) × (pairs lane ≡ Some c)

seated_at : (pairs : ℕ → Option Pair) (c : Pair) (lane : ℕ) → pairs lane ≡ Some c → (x : Option Allocation) → IsSeated pairs c x
seated_at pairs c lane h None = tt
seated_at pairs c lane h (Some a) = (lane, h)

seated_move : (w : Rules) (pairs : ℕ → Option Pair) (c : Pair) (st : State) (lane moment : ℕ) (move : Move) → IsOfPair pairs lane move → ((k : Pair) → IsSeated pairs k (st.table k)) → IsSeated pairs c (table_after w st moment move c)
seated_move w pairs c st lane moment (In s) o h = h c
seated_move w pairs c st lane moment (Act d s t) o h =
    elim (same_client c d) as (λ b. same_client c d ≡ b → IsSeated pairs c (cond b (acted w moment (Act d s t) (st.table d)) (st.table c))) [
      | true ↦ λ q. seated_at pairs c lane (o ∙ ap Some (sym (client_true c d q))) (acted w moment (Act d s t) (st.table d))
      | false ↦ λ q. h c
    ] refl
seated_move w pairs c st lane moment (Out t) o h = h c

pub seated_all : (w : Rules) (pairs : ℕ → Option Pair) (steps : List Placed) (st : State) → AreOfPairs pairs steps → ((k : Pair) → IsSeated pairs k (st.table k)) → (k : Pair) → IsSeated pairs k ((led w st steps).table k)
seated_all w pairs [] st o h = h
seated_all w pairs (e ∷ es) st o h = seated_all w pairs es (after w st (step_of e)) o.1 (λ c. seated_move w pairs c st e.at.lane e.at.key.moment e.move o.0 h)

-- ---- each allocation makes a tenancy, and nothing else does

module _ (w : Rules) (Q : At → Addr → Type 0) where
  abbrev pub EachOf : List Tenancy → Type 0
  EachOf ts = AllByRecursion (λ t. Q t.born t.relayed) ts

  abbrev pub OfSome : Option Tenancy → Type 0
  OfSome None = Unit {0}
  OfSome (Some t) = Q t.born t.relayed

  abbrev pub OfMade : Change → At → Type 0
  OfMade Same at = Unit {0}
  OfMade (Makes made) at = Q at made.relayed
  OfMade (Renews until) at = Unit {0}
  OfMade (Grants ips until) at = Unit {0}
  OfMade (Binds number peer until permitted) at = Unit {0}
  OfMade Removes at = Unit {0}

  abbrev pub OfMove : At → Move → Option Allocation → Type 0
  OfMove at (In s) x = Unit {0}
  OfMove at (Act c s t) x = OfMade (w.change c s t at.key.moment x) at
  OfMove at (Out t) x = Unit {0}

  -- it holds of each allocation that the steps make from this one on
  abbrev pub OfAll : Option Allocation → List Placed → Type 0
  OfAll x [] = Unit {0}
  OfAll x (e ∷ es) = OfMove e.at e.move x × OfAll (acted w e.at.key.moment e.move x) es

  each_tenancy : (ten : Option Tenancy) → OfSome ten → EachOf (option_to_list ten)
  each_tenancy None h = tt
  each_tenancy (Some t) h = (h, tt)

  each_stopped : (at : At) (ten : Option Tenancy) → OfSome ten → EachOf (option_to_list (ended_by at.key Removes ten))
  each_stopped at None h = tt
  each_stopped at (Some t) h = (h, tt)

  each_change : (ch : Change) (at : At) (s : SightId) (ten : Option Tenancy) → OfSome ten → OfMade ch at → EachOf (option_to_list (ended_by at.key ch ten)) × OfSome (running_after w.grace at s ch ten)
  each_change Same at s ten h m = (tt, h)
  each_change (Makes made) at s ten h m = (each_stopped at ten h, m)
  each_change (Renews until) at s None h m = (tt, tt)
  each_change (Renews until) at s (Some t) h m = (tt, h)
  each_change (Grants ips until) at s ten h m = (tt, h)
  each_change (Binds number peer until permitted) at s ten h m = (tt, h)
  each_change Removes at s ten h m = (each_stopped at ten h, tt)

  each_move : (at : At) (move : Move) (x : Option Allocation) (ten : Option Tenancy) → OfSome ten → OfMove at move x → EachOf (option_to_list (ended w at move x ten)) × OfSome (running w at move x ten)
  each_move at (In s) x ten h m = (tt, h)
  each_move at (Act c s t) x ten h m = each_change (w.change c s t at.key.moment x) at s ten h m
  each_move at (Out t) x ten h m = (tt, h)

  -- what holds of each allocation made holds of each tenancy
  pub each_made : (steps : List Placed) (x : Option Allocation) (ten : Option Tenancy) → OfSome ten → OfAll x steps → EachOf (tenancies_from w x ten steps)
  each_made [] x ten h m = each_tenancy ten h
  each_made (e ∷ es) x ten h m =
      let k = each_move e.at e.move x ten h m.0 in
      all_append (λ (t : Tenancy). Q t.born t.relayed) (option_to_list (ended w e.at e.move x ten)) (tenancies_from w (acted w e.at.key.moment e.move x) (running w e.at e.move x ten) es) k.0 (each_made es (acted w e.at.key.moment e.move x) (running w e.at e.move x ten) k.1 m.1)

  -- and the other way round
  some_tenancy : (ten : Option Tenancy) → EachOf (option_to_list ten) → OfSome ten
  some_tenancy None h = tt
  some_tenancy (Some t) h = h.0

  some_stopped : (at : At) (ten : Option Tenancy) → EachOf (option_to_list (ended_by at.key Removes ten)) → OfSome ten
  some_stopped at None h = tt
  some_stopped at (Some t) h = h.0

  some_change : (ch : Change) (at : At) (s : SightId) (ten : Option Tenancy) → EachOf (option_to_list (ended_by at.key ch ten)) → OfSome (running_after w.grace at s ch ten) → OfSome ten
  some_change Same at s ten h m = m
  some_change (Makes made) at s ten h m = some_stopped at ten h
  some_change (Renews until) at s None h m = tt
  some_change (Renews until) at s (Some t) h m = m
  some_change (Grants ips until) at s ten h m = m
  some_change (Binds number peer until permitted) at s ten h m = m
  some_change Removes at s ten h m = some_stopped at ten h

  some_move : (at : At) (move : Move) (x : Option Allocation) (ten : Option Tenancy) → EachOf (option_to_list (ended w at move x ten)) → OfSome (running w at move x ten) → OfSome ten
  some_move at (In s) x ten h m = m
  some_move at (Act c s t) x ten h m = some_change (w.change c s t at.key.moment x) at s ten h m
  some_move at (Out t) x ten h m = m

  made_some : (steps : List Placed) (x : Option Allocation) (ten : Option Tenancy) → EachOf (tenancies_from w x ten steps) → OfSome ten
  made_some [] x ten h = some_tenancy ten h
  made_some (e ∷ es) x ten h = some_move e.at e.move x ten (all_left (λ (t : Tenancy). Q t.born t.relayed) (option_to_list (ended w e.at e.move x ten)) (tenancies_from w (acted w e.at.key.moment e.move x) (running w e.at e.move x ten) es) h)
      (made_some es (acted w e.at.key.moment e.move x) (running w e.at e.move x ten) (all_right (λ (t : Tenancy). Q t.born t.relayed) (option_to_list (ended w e.at e.move x ten)) (tenancies_from w (acted w e.at.key.moment e.move x) (running w e.at e.move x ten) es) h))

  -- the tenancy of an allocation that a step makes
  pub made_at : (p : List Placed) (at : At) (c : Pair) (s t : SightId) (made : Allocation) (q : List Placed) (x : Option Allocation) (ten : Option Tenancy) → w.change c s t at.key.moment (acted_all w x p) ≡ Makes made →
      EachOf (tenancies_from w x ten (p ++ record { at = at; move = Act c s t } ∷ q)) → Q at made.relayed
  made_at [] at c s t made q x ten e h =
      subst (λ (ch : Change). OfSome (running_after w.grace at s ch ten)) e
      (made_some q (acted w at.key.moment (Act c s t) x) (running w at (Act c s t) x ten)
      (all_right (λ (u : Tenancy). Q u.born u.relayed) (option_to_list (ended w at (Act c s t) x ten)) (tenancies_from w (acted w at.key.moment (Act c s t) x) (running w at (Act c s t) x ten) q) h))
  made_at (d ∷ p) at c s t made q x ten e h = made_at p at c s t made q (acted w d.at.key.moment d.move x) (running w d.at d.move x ten) e
      (all_right (λ (u : Tenancy). Q u.born u.relayed) (option_to_list (ended w d.at d.move x ten)) (tenancies_from w (acted w d.at.key.moment d.move x) (running w d.at d.move x ten) (p ++ record { at = at; move = Act c s t } ∷ q)) h)

  -- of a lane's part, step by step of the whole
  pub lane_made : (lane : ℕ) (steps : List Placed) (x : Option Allocation) → ((p : List Placed) (e : Placed) (q : List Placed) → p ++ e ∷ q ≡ steps → e.at.lane ≡ lane → OfMove e.at e.move (acted_all w x (of_lane lane p))) → OfAll x (of_lane lane steps)
  lane_made lane [] x f = tt
  lane_made lane (e ∷ es) x f = elim (e.at.lane == lane) as (λ b. (e.at.lane == lane) ≡ b → OfAll x (cond b (e ∷ of_lane lane es) (of_lane lane es))) [
    | true ↦ λ q. (
      f [] e es refl (eqb-true e.at.lane lane q),
      lane_made lane es (acted w e.at.key.moment e.move x) (λ p d r h l. subst (λ (ys : List Placed). OfMove d.at d.move (acted_all w x ys)) (cond-true (e.at.lane == lane) (e ∷ of_lane lane p) (of_lane lane p) q) (f (e ∷ p) d r (ap (λ ys. e ∷ ys) h) l)),
    )
    | false ↦ λ q. lane_made lane es x (λ p d r h l. subst (λ (ys : List Placed). OfMove d.at d.move (acted_all w x ys)) (cond-false (e.at.lane == lane) (e ∷ of_lane lane p) (of_lane lane p) q) (f (e ∷ p) d r (ap (λ ys. e ∷ ys) h) l))
  ] refl

  -- what holds of any allocation made there
  of_any : (ch : Change) (at : At) → ((relayed : Addr) → Q at relayed) → OfMade ch at
  of_any Same at f = tt
  of_any (Makes made) at f = f made.relayed
  of_any (Renews until) at f = tt
  of_any (Grants ips until) at f = tt
  of_any (Binds number peer until permitted) at f = tt
  of_any Removes at f = tt

  of_any_move : (at : At) (move : Move) (x : Option Allocation) → ((relayed : Addr) → Q at relayed) → OfMove at move x
  of_any_move at (In s) x f = tt
  of_any_move at (Act c s t) x f = of_any (w.change c s t at.key.moment x) at f
  of_any_move at (Out t) x f = tt

  pub all_made : (steps : List Placed) (x : Option Allocation) → AllByRecursion (λ (e : Placed). (relayed : Addr) → Q e.at relayed) steps → OfAll x steps
  all_made [] x h = tt
  all_made (e ∷ es) x h = (of_any_move e.at e.move x h.0, all_made es (acted w e.at.key.moment e.move x) h.1)

  -- where nothing acts
  no_acts : (pairs : ℕ → Option Pair) (lane : ℕ) → pairs lane ≡ None → (at : At) (move : Move) (x : Option Allocation) → IsOfPair pairs lane move → OfMove at move x
  no_acts pairs lane none at (In s) x h = tt
  no_acts pairs lane none at (Act c s t) x h = absurd (let k : None ≡ Some c = sym none ∙ h in cc)
  no_acts pairs lane none at (Out t) x h = tt

  pub none_made : (pairs : ℕ → Option Pair) (lane : ℕ) → pairs lane ≡ None → (steps : List Placed) (x : Option Allocation) → AllByRecursion (λ (e : Placed). IsOfPair pairs lane e.move) steps → OfAll x steps
  none_made pairs lane none [] x h = tt
  none_made pairs lane none (e ∷ es) x h = (no_acts pairs lane none e.at e.move x h.0, none_made pairs lane none es (acted w e.at.key.moment e.move x) h.1)

-- a lane with no pair has no tenancies
all_any : {A : Type 0} (P : A → Type 0) (xs : List A) → AllByRecursion (λ _. ⊥) xs → AnyOf P xs → ⊥
all_any P [] h k = k
all_any P (x ∷ xs) h k = h.0

no_tenancy : (w : Rules) (pairs : ℕ → Option Pair) (lane : ℕ) (steps : List Placed) → pairs lane ≡ None → AreOfPairs pairs steps → (P : Tenancy → Type 0) → AnyOf P (tenancies w lane steps) → ⊥
no_tenancy w pairs lane steps none o P h =
    all_any P (tenancies w lane steps)
    (each_made w (λ _ _. ⊥) (of_lane lane steps) None None tt
    (none_made w (λ _ _. ⊥) pairs lane none (of_lane lane steps) None (all_of_lane (λ n e. IsOfPair pairs n e.move) lane steps o)))
    h

by_option : {A : Type 0} (x : Option A) (G : Type 0) → (x ≡ None → G) → ((a : A) → x ≡ Some a → G) → G
by_option None G f g = f refl
by_option (Some a) G f g = g a refl

all_true : {A : Type 0} (xs : List A) → AllByRecursion (λ _. Unit {0}) xs
all_true [] = tt
all_true (x ∷ xs) = (tt, all_true xs)

-- ---- from the lanes to the whole

-- what the lanes are known to be
pub record Parts (w : Rules) (home : SightId → ℕ) (pairs : ℕ → Option Pair) (steps : List Placed) : Type 0 where
  pub rises : Rises steps
  pub at_home : StandAtHome home steps
  pub of_pairs : AreOfPairs pairs steps
  pub runs : (lane : ℕ) → Runs w at_first (of_lane lane steps)
  pub apart : NoClash w steps

now_le : (w : Rules) (moment : ℕ) (p : List Placed) (st : State) → st.now ≤ moment → AllByRecursion (λ (d : Placed). d.at.key.moment ≤ moment) p → (led w st p).now ≤ moment
now_le w moment [] st h a = h
now_le w moment (d ∷ p) st h a = now_le w moment p (after w st (step_of d)) a.0 a.1

pub has_lane : (pairs : ℕ → Option Pair) (grace moment : ℕ) (c : Pair) (relayed : Addr) (x : Option Allocation) → IsSeated pairs c x → HasAddress grace moment relayed x → (i : ℕ) × (pairs i ≡ Some c)
has_lane pairs grace moment c relayed None s h = absurd h
has_lane pairs grace moment c relayed (Some a) s h = s

module _ (w : Rules) (law : AreLawful w) (home : SightId → ℕ) (pairs : ℕ → Option Pair) (distinct : AreDistinct pairs) where
  free_here : (p : List Placed) (at : At) (c : Pair) (s t : SightId) (q : List Placed) → Parts w home pairs (p ++ record { at = at; move = Act c s t } ∷ q) → (ch : Change) → w.change c s t at.key.moment ((state_after w p).table c) ≡ ch → IsFree w (state_after w p) at.key.moment c ch
  free_here p at c s t q f Same e = tt
  free_here p at c s t q f (Makes made) e = λ other ne h.
      let all : List Placed = p ++ record { at = at; move = Act c s t } ∷ q in
      let before : AreOfPairs pairs p = all_left (λ (d : Placed). IsOfPair pairs d.at.lane d.move) p (record { at = at; move = Act c s t } ∷ q) f.of_pairs in
      let own : pairs at.lane ≡ Some c = (all_right (λ (d : Placed). IsOfPair pairs d.at.lane d.move) p (record { at = at; move = Act c s t } ∷ q) f.of_pairs).0 in
      let found : (i : ℕ) × (pairs i ≡ Some other) = has_lane pairs w.grace at.key.moment other made.relayed ((state_after w p).table other) (seated_all w pairs p at_first before (λ _. tt) other) h in
      let differ : at.lane ≢ found.0 = λ k. ne (let m : Some other ≡ Some c = sym found.1 ∙ ap pairs (sym k) ∙ own in let n : other ≡ c = cc in n) in
      let holds : AnyOf (HoldsAt at made.relayed) (tenancies w found.0 all) = (held w law pairs distinct p (record { at = at; move = Act c s t }) q f.rises f.of_pairs found.0 other found.1 differ (f.runs found.0) made.relayed).0 h in
      made_at w (λ b r. AnyOf (HoldsAt b r) (tenancies w found.0 all) → ⊥) (of_lane at.lane p) at c s t made (of_lane at.lane q) None None
      (subst (λ (x : Option Allocation). w.change c s t at.key.moment x ≡ Makes made) (table_is w pairs distinct at.lane c own p at_first before) e)
      (subst (λ (xs : List Placed). AllByRecursion (λ (u : Tenancy). AnyOf (HoldsAt u.born u.relayed) (tenancies w found.0 all) → ⊥) (tenancies_from w None None xs))
      (lane_split at.lane p (record { at = at; move = Act c s t }) q refl) (f.apart at.lane found.0 differ)) holds
  free_here p at c s t q f (Renews until) e = tt
  free_here p at c s t q f (Grants ips until) e = tt
  free_here p at c s t q f (Binds number peer until permitted) e = tt
  free_here p at c s t q f Removes e = tt

  free_at : (p : List Placed) (at : At) (move : Move) (q : List Placed) → Parts w home pairs (p ++ record { at = at; move = move } ∷ q) → HandsOutFree w (state_after w p) at.key.moment move
  free_at p at (In s) q f = tt
  free_at p at (Act c s t) q f = free_here p at c s t q f (w.change c s t at.key.moment ((state_after w p).table c)) refl
  free_at p at (Out t) q f = tt

  allowed_at : (p : List Placed) (e : Placed) (q : List Placed) → Parts w home pairs (p ++ e ∷ q) → Allowed w (state_after w p) (step_of e)
  allowed_at p e q f =
      let lane : ℕ = e.at.lane in
      let at_home : StandAtHome home p = all_left (λ (d : Placed). NamesAtHome home d.at.lane d.move) p (e ∷ q) f.at_home in
      let here : NamesAtHome home lane e.move = (all_right (λ (d : Placed). NamesAtHome home d.at.lane d.move) p (e ∷ q) f.at_home).0 in
      let of_pairs : AreOfPairs pairs p = all_left (λ (d : Placed). IsOfPair pairs d.at.lane d.move) p (e ∷ q) f.of_pairs in
      let own : IsOfPair pairs lane e.move = (all_right (λ (d : Placed). IsOfPair pairs d.at.lane d.move) p (e ∷ q) f.of_pairs).0 in
      let agree : Agree home lane (pairs lane) (state_after w p) (state_after w (of_lane lane p)) = agree_all w home pairs lane distinct p at_first at_first at_home of_pairs (agree_first home lane (pairs lane)) in
      let alone : Allowed w (state_after w (of_lane lane p)) (step_of e) = split_of_run w (of_lane lane p) e (of_lane lane q) at_first (subst (λ (xs : List Placed). Runs w at_first xs) (lane_split lane p e q refl) (f.runs lane)) in
      let order = all_weaker (λ (d : Placed). at_cmp d.at e.at ≡ Less) (λ (d : Placed). d.at.key.moment ≤ e.at.key.moment) (λ d h. moment_le d.at e.at h) p (rises_before p e q f.rises) in
      record {
        in_order = now_le w e.at.key.moment p at_first (omega arith) order;
        may = may_to w home lane (pairs lane) (state_after w (of_lane lane p)) (state_after w p) e.at.key.moment e.move (back home lane (pairs lane) (state_after w p) (state_after w (of_lane lane p)) agree) here (act_pair pairs lane e.move own) alone.may;
        free = free_at p e.at e.move q f;
      }

  -- where each lane is a run and no tenancies clash, the whole is a run
  pub whole_runs : (steps : List Placed) → Parts w home pairs steps → Runs w at_first steps
  whole_runs steps f = run_of_splits w steps at_first (λ p e q h. allowed_at p e q (subst (λ (xs : List Placed). Parts w home pairs xs) (sym h) f))

  -- and owes nothing, where no lane owes
  pub whole_owes : (steps : List Placed) → StandAtHome home steps → AreOfPairs pairs steps → ((lane : ℕ) (t : SightId) → (state_after w (of_lane lane steps)).owed t ≡ None) → (t : SightId) → (state_after w steps).owed t ≡ None
  whole_owes steps at_home of_pairs none t =
      (agree_all w home pairs (home t) distinct steps at_first at_first at_home of_pairs (agree_first home (home t) (pairs (home t)))).owed t refl ∙ none (home t) t

-- ---- from the whole to the lanes

-- the lane's own state has nothing of others
pub record Alone (home : SightId → ℕ) (lane : ℕ) (pair : Option Pair) (own : State) : Type 0 where
  pub table : (c : Pair) → pair ≢ Some c → own.table c ≡ None
  pub owed : (t : SightId) → home t ≢ lane → own.owed t ≡ None

alone_step : (w : Rules) (home : SightId → ℕ) (lane : ℕ) (pair : Option Pair) (own : State) (moment : ℕ) (move : Move) → Alone home lane pair own → NamesAtHome home lane move → ActsOn pair move →
    Alone home lane pair (after w own (record { moment = moment; move = move }))
alone_step w home lane pair own moment (In s) a n p = record { table = a.table; owed = a.owed }
alone_step w home lane pair own moment (Act d s t) a n p = record {
  table = λ c ne. put_client own.table d (acted w moment (Act d s t) (own.table d)) c (λ e. ne (p d s t refl ∙ ap Some (sym e))) ∙ a.table c ne;
  owed = λ q ne. put_sight own.owed t (own.waiting s) q (λ e. ne (ap home e ∙ n.1)) ∙ a.owed q ne;
}
alone_step w home lane pair own moment (Out t) a n p = record {
  table = a.table;
  owed = λ q ne. put_sight own.owed t None q (λ e. ne (ap home e ∙ n)) ∙ a.owed q ne;
}

-- no one else has an allocation
free_change : (w : Rules) (home : SightId → ℕ) (lane : ℕ) (pair : Option Pair) (own : State) (moment : ℕ) (c : Pair) → Alone home lane pair own → pair ≡ Some c → (ch : Change) → IsFree w own moment c ch
free_change w home lane pair own moment c a p Same = tt
free_change w home lane pair own moment c a p (Makes made) = λ other ne h. subst (λ (x : Option Allocation). HasAddress w.grace moment made.relayed x) (a.table other (λ e. ne (let m : Some other ≡ Some c = sym e ∙ p in let n : other ≡ c = cc in n))) h
free_change w home lane pair own moment c a p (Renews until) = tt
free_change w home lane pair own moment c a p (Grants ips until) = tt
free_change w home lane pair own moment c a p (Binds number peer until permitted) = tt
free_change w home lane pair own moment c a p Removes = tt

free_alone : (w : Rules) (home : SightId → ℕ) (lane : ℕ) (pair : Option Pair) (own : State) (moment : ℕ) (move : Move) → Alone home lane pair own → ActsOn pair move → HandsOutFree w own moment move
free_alone w home lane pair own moment (In s) a p = tt
free_alone w home lane pair own moment (Act c s t) a p = free_change w home lane pair own moment c a (p c s t refl) (w.change c s t moment (own.table c))
free_alone w home lane pair own moment (Out t) a p = tt

module _ (w : Rules) (home : SightId → ℕ) (pairs : ℕ → Option Pair) (distinct : AreDistinct pairs) (lane : ℕ) where
  pub lane_runs : (steps : List Placed) (st own : State) → StandAtHome home steps → AreOfPairs pairs steps → Agree home lane (pairs lane) st own → Alone home lane (pairs lane) own → own.now ≤ st.now →
      Runs w st steps → Runs w own (of_lane lane steps) × Alone home lane (pairs lane) (led w own (of_lane lane steps))
  lane_runs [] st own n p a o now run = (tt, o)
  lane_runs (e ∷ es) st own n p a o now run =
      elim (e.at.lane == lane) as (λ b. (e.at.lane == lane) ≡ b → Runs w own (cond b (e ∷ of_lane lane es) (of_lane lane es)) × Alone home lane (pairs lane) (led w own (cond b (e ∷ of_lane lane es) (of_lane lane es)))) [
        | true ↦ λ q.
            let here : e.at.lane ≡ lane = eqb-true e.at.lane lane q in
            let names : NamesAtHome home lane e.move = subst (λ (m : ℕ). NamesAtHome home m e.move) here n.0 in
            let acts : ActsOn (pairs lane) e.move = act_pair pairs lane e.move (subst (λ (m : ℕ). IsOfPair pairs m e.move) here p.0) in
            let order : st.now ≤ e.at.key.moment = run.0.in_order in
            let rest = lane_runs es (after w st (step_of e)) (after w own (step_of e)) n.1 p.1 (same_step w home lane (pairs lane) st own e.at.key.moment e.move a names acts) (alone_step w home lane (pairs lane) own e.at.key.moment e.move o names acts) (omega arith) run.1 in (
              (
                record {
                  in_order = omega arith;
                  may = may_to w home lane (pairs lane) st own e.at.key.moment e.move a names acts run.0.may;
                  free = free_alone w home lane (pairs lane) own e.at.key.moment e.move o acts;
                },
                rest.0,
              ),
              rest.1,
            )
        | false ↦ λ q.
            let there : e.at.lane ≢ lane = eqb-false e.at.lane lane q in
            let order : st.now ≤ e.at.key.moment = run.0.in_order in
            lane_runs es (after w st (step_of e)) own n.1 p.1 (other_step w home lane (pairs lane) st own e.at.lane e.at.key.moment e.move a there n.0 (λ c s t m h. there (distinct e.at.lane lane c (act_pair pairs e.at.lane e.move p.0 c s t m) h))) o (omega arith) run.1
      ] refl

module _ (w : Rules) (law : AreLawful w) (home : SightId → ℕ) (pairs : ℕ → Option Pair) (distinct : AreDistinct pairs) where
  alone_first : (lane : ℕ) → Alone home lane (pairs lane) at_first
  alone_first lane = record { table = λ _ _. refl; owed = λ _ _. refl }

  -- where the whole is a run, each lane is
  pub parts_run : (steps : List Placed) → StandAtHome home steps → AreOfPairs pairs steps → Runs w at_first steps → (lane : ℕ) → Runs w at_first (of_lane lane steps)
  parts_run steps n p run lane = (lane_runs w home pairs distinct lane steps at_first at_first n p (agree_first home lane (pairs lane)) (alone_first lane) (omega arith) run).0

  pub parts_owe : (steps : List Placed) → StandAtHome home steps → AreOfPairs pairs steps → Runs w at_first steps → ((t : SightId) → (state_after w steps).owed t ≡ None) → (lane : ℕ) (t : SightId) → (state_after w (of_lane lane steps)).owed t ≡ None
  parts_owe steps n p run none lane t =
      elim (cases_eq (home t) lane) [
        | inl e ↦ sym ((agree_all w home pairs lane distinct steps at_first at_first n p (agree_first home lane (pairs lane))).owed t e) ∙ none t
        | inr ne ↦ (lane_runs w home pairs distinct lane steps at_first at_first n p (agree_first home lane (pairs lane)) (alone_first lane) (omega arith) run).1.owed t ne
      ]

  -- what is handed out is no one else's, so it clashes with no tenancy
  unheld_act : (steps : List Placed) (one other : ℕ) (pair : Pair) → pairs other ≡ Some pair → one ≢ other → Rises steps → AreOfPairs pairs steps → Runs w at_first steps → Runs w at_first (of_lane other steps) →
      (p : List Placed) (at : At) (c : Pair) (s t : SightId) (q : List Placed) → p ++ record { at = at; move = Act c s t } ∷ q ≡ steps → at.lane ≡ one →
      (ch : Change) → w.change c s t at.key.moment ((state_after w p).table c) ≡ ch → OfMade w (λ b r. AnyOf (HoldsAt b r) (tenancies w other steps) → ⊥) ch at
  unheld_act steps one other pair is ne up o run own p at c s t q h l Same e = tt
  unheld_act steps one other pair is ne up o run own p at c s t q h l (Makes made) e = λ k.
      let step : Placed = record { at = at; move = Act c s t } in
      let o' : AreOfPairs pairs (p ++ step ∷ q) = subst (λ (xs : List Placed). AreOfPairs pairs xs) (sym h) o in
      let mine : pairs at.lane ≡ Some c = (all_right (λ (d : Placed). IsOfPair pairs d.at.lane d.move) p (step ∷ q) o').0 in
      let allowed : Allowed w (state_after w p) (step_of step) = split_of_run w p step q at_first (subst (λ (xs : List Placed). Runs w at_first xs) (sym h) run) in
      let free : IsFree w (state_after w p) at.key.moment c (Makes made) = subst (λ (d : Change). IsFree w (state_after w p) at.key.moment c d) e allowed.free in
      free pair (λ d. ne (sym l ∙ sym (distinct other at.lane pair is (mine ∙ ap Some (sym d)))))
      ((held w law pairs distinct p step q (subst (λ (xs : List Placed). Rises xs) (sym h) up) o' other pair is (λ d. ne (sym l ∙ d)) (subst (λ (xs : List Placed). Runs w at_first (of_lane other xs)) (sym h) own) made.relayed).1
      (subst (λ (xs : List Placed). AnyOf (HoldsAt at made.relayed) (tenancies w other xs)) (sym h) k))
  unheld_act steps one other pair is ne up o run own p at c s t q h l (Renews until) e = tt
  unheld_act steps one other pair is ne up o run own p at c s t q h l (Grants ips until) e = tt
  unheld_act steps one other pair is ne up o run own p at c s t q h l (Binds number peer until permitted) e = tt
  unheld_act steps one other pair is ne up o run own p at c s t q h l Removes e = tt

  unheld : (steps : List Placed) (one other : ℕ) (pair : Pair) → pairs other ≡ Some pair → one ≢ other → Rises steps → AreOfPairs pairs steps → Runs w at_first steps → Runs w at_first (of_lane other steps) →
      (p : List Placed) (at : At) (move : Move) (q : List Placed) → p ++ record { at = at; move = move } ∷ q ≡ steps → at.lane ≡ one → OfMove w (λ b r. AnyOf (HoldsAt b r) (tenancies w other steps) → ⊥) at move (acted_all w None (of_lane one p))
  unheld steps one other pair is ne up o run own p at (In s) q h l = tt
  unheld steps one other pair is ne up o run own p at (Act c s t) q h l =
      let o' : AreOfPairs pairs (p ++ record { at = at; move = Act c s t } ∷ q) = subst (λ (xs : List Placed). AreOfPairs pairs xs) (sym h) o in
      let mine : pairs one ≡ Some c = subst (λ (n : ℕ). pairs n ≡ Some c) l (all_right (λ (d : Placed). IsOfPair pairs d.at.lane d.move) p (record { at = at; move = Act c s t } ∷ q) o').0 in
      let there : (state_after w p).table c ≡ acted_all w None (of_lane one p) = table_is w pairs distinct one c mine p at_first (all_left (λ (d : Placed). IsOfPair pairs d.at.lane d.move) p (record { at = at; move = Act c s t } ∷ q) o') in
      subst (λ (x : Option Allocation). OfMade w (λ b r. AnyOf (HoldsAt b r) (tenancies w other steps) → ⊥) (w.change c s t at.key.moment x) at) there
      (unheld_act steps one other pair is ne up o run own p at c s t q h l (w.change c s t at.key.moment ((state_after w p).table c)) refl)
  unheld steps one other pair is ne up o run own p at (Out t) q h l = tt

  pub parts_apart : (steps : List Placed) → Rises steps → StandAtHome home steps → AreOfPairs pairs steps → Runs w at_first steps → NoClash w steps
  parts_apart steps up n o run one other ne =
      let own = parts_run steps n o run other in
      by_option (pairs other) (AllByRecursion (λ (t : Tenancy). AnyOf (HoldsAt t.born t.relayed) (tenancies w other steps) → ⊥) (tenancies w one steps))
      (λ none. all_weaker (λ (t : Tenancy). Unit {0}) (λ (t : Tenancy). AnyOf (HoldsAt t.born t.relayed) (tenancies w other steps) → ⊥) (λ t _ k. no_tenancy w pairs other steps none o (HoldsAt t.born t.relayed) k) (tenancies w one steps) (all_true (tenancies w one steps)))
      (λ pair is.
      each_made w (λ b r. AnyOf (HoldsAt b r) (tenancies w other steps) → ⊥) (of_lane one steps) None None tt
      (lane_made w (λ b r. AnyOf (HoldsAt b r) (tenancies w other steps) → ⊥) one steps None (λ p e q h l. unheld steps one other pair is ne up o run own p e.at e.move q h l)))
