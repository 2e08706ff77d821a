-- A lane that goes on is a run of a server with its client alone.
use Rattle.std.proofs.Common.{◌≡◌, ◌≢◌, ◌≤◌, ◌+◌, ℕ, Bool, true, false, not, cond, Option, Some, None, List, [], ◌∷◌, ◌++◌, map, refl, sym, ◌∙◌, ap, subst, arith}
use Rattle.std.specs.Prelude.{is_some, ◌||◌}
use Rattle.std.specs.List.{AllByRecursion, filter, list_any}
use Rattle.std.specs.List.Sorted.{IsStrictlySortedBy}
use Rattle.std.specs.declared.cmp.Ordering.TheVariants.{Less}
use Rattle.std.proofs.lemmas.Bool.{true≢false, cond-true, cond-false}
use Rattle.audit_model.specs.declared.sighting.SightId.{SightId}
use Rattle.audit_rules.specs.Allocation.{Allocation, Change, Same, Makes, Renews, Grants, Binds, Removes}
use Rattle.audit_server.specs.Step.{Step, Move, In, Act, Out}
use Rattle.audit_server.specs.Rules.{Rules}
use Rattle.audit_model.specs.declared.pair.Pair.{Pair}
use Rattle.audit_server.specs.State.{State, at_first, after, acted, put}
use Rattle.audit_model.specs.Sames.{same_sight, same_client}
use Rattle.audit_server.specs.Run.{HasAddress, InTime, MayMove, IsFree, HandsOutFree}
use Rattle.audit_server.specs.Placed.{at_cmp, Placed, step_of, Runs, led, Rises}
use Rattle.audit_server.specs.Placing.{places, times_placed}
use Rattle.audit_model.proofs.Sames.{sight_true, sight_same, client_same}
use Rattle.audit_server.proofs.Orders.{moment_le, all_weaker}
use Rattle.audit_server.proofs.Sorting.{count_cons}
use Rattle.audit_server.proofs.Placing.{one_if}
use Rattle.audit_server.proofs.Local.{put_client}
use Rattle.audit_server.proofs.Whole.{OnlyOf}
use Rattle.audit_prefix.specs.Walk.{Owing, Memory, nothing_yet, came_after, remembered, remembered_all, IsInTime, GoesOn, AllGoOn}

abbrev pub owes : SightId → List Owing → Bool
owes t os = list_any (λ (o : Owing). same_sight t o.gives) os

-- the state of the server is what the lane remembers, and `placed` is how often each sighting was placed so far
pub record Matches (w : Rules) (pair : Pair) (m : Memory) (placed : SightId → ℕ) (st : State) : Type 0 where
  pub table : st.table pair ≡ m.allocation
  pub others : (c : Pair) → c ≢ pair → st.table c ≡ None
  pub waiting : (s : SightId) → st.waiting s ≡ cond (m.taken s) None (m.came s)
  pub owed : (t : SightId) → st.owed t ≡ cond (owes t m.owing) (m.since t) None
  pub sent : (t : SightId) → st.sent t ≡ is_some (m.since t)
  pub came_once : (s : SightId) → is_some (m.came s) ≡ true → 1 ≤ placed s
  pub left_once : (t : SightId) → is_some (m.since t) ≡ true → owes t m.owing ≡ false → 1 ≤ placed t
  pub taken_came : (s : SightId) → m.taken s ≡ true → is_some (m.came s) ≡ true
  pub owed_sent : (t : SightId) → owes t m.owing ≡ true → is_some (m.since t) ≡ true

pub matches_first : (w : Rules) (pair : Pair) → Matches w pair nothing_yet (λ _. 0) at_first
matches_first w pair = record {
  table = refl;
  others = λ c ne. refl;
  waiting = λ s. refl;
  owed = λ t. refl;
  sent = λ t. refl;
  came_once = λ s h. absurd (true≢false (sym h));
  left_once = λ t h k. absurd (true≢false (sym h));
  taken_came = λ s h. absurd (true≢false (sym h));
  owed_sent = λ t h. absurd (true≢false (sym h));
}

abbrev pub counted : (SightId → ℕ) → Move → SightId → ℕ
counted placed move s = placed s + cond (places s move) 1 0

none_is : {A : Type 0} (o : Option A) → (is_some o ≡ true → ⊥) → o ≡ None
none_is None f = refl
none_is (Some x) f = absurd (f refl)

in_time_of : (w : Rules) (o : Option ℕ) (moment : ℕ) → IsInTime w.hold o moment → InTime w o moment
in_time_of w None moment h = h
in_time_of w (Some m) moment h = h

in_time_to : (w : Rules) (o : Option ℕ) (moment : ℕ) → InTime w o moment → IsInTime w.hold o moment
in_time_to w None moment h = h
in_time_to w (Some m) moment h = h

in_time_some : (hold : ℕ) (o : Option ℕ) (moment : ℕ) → IsInTime hold o moment → is_some o ≡ true
in_time_some hold None moment h = absurd h
in_time_some hold (Some m) moment h = refl

here_placed : (s : SightId) (placed : SightId → ℕ) (move : Move) → places s move ≡ true → 1 ≤ counted placed move s
here_placed s placed move h = let c = one_if (places s move) h in omega arith

more_placed : (s : SightId) (placed : SightId → ℕ) (move : Move) → 1 ≤ placed s → 1 ≤ counted placed move s
more_placed s placed move h = omega (arith, h)

owes_push : (t : SightId) (os : List Owing) (o : Owing) → owes t (os ++ o ∷ []) ≡ (owes t os || same_sight t o.gives)
owes_push t [] o = or_false (same_sight t o.gives) where
  or_false : (b : Bool) → (b || false) ≡ b
  or_false true = refl
  or_false false = refl
owes_push t (x ∷ os) o = elim (same_sight t x.gives) as (λ b. (b || owes t (os ++ o ∷ [])) ≡ ((b || owes t os) || same_sight t o.gives)) [ true ↦ refl | false ↦ owes_push t os o ]

or_cases : (a b : Bool) → (a || b) ≡ false → (a ≡ false) × (b ≡ false)
or_cases true b h = absurd (true≢false h)
or_cases false b h = (refl, h)

owes_filter : (t y : SightId) (os : List Owing) → owes t (filter (λ (o : Owing). not (same_sight y o.gives)) os) ≡ cond (same_sight t y) false (owes t os)
owes_filter t y [] = elim (same_sight t y) as (λ b. false ≡ cond b false false) [ true ↦ refl | false ↦ refl ]
owes_filter t y (o ∷ os) = elim (same_sight y o.gives) as (λ b. same_sight y o.gives ≡ b → owes t (cond (not b) (o ∷ filter (λ (p : Owing). not (same_sight y p.gives)) os) (filter (λ (p : Owing). not (same_sight y p.gives)) os)) ≡ cond (same_sight t y) false (same_sight t o.gives || owes t os)) [
  | true ↦ λ q. owes_filter t y os ∙ by_same (same_sight t y) refl (sight_true y o.gives q)
  | false ↦ λ q. ap (λ b. same_sight t o.gives || b) (owes_filter t y os) ∙ by_other (same_sight t y) refl q
] refl where
  by_same : (b : Bool) → same_sight t y ≡ b → y ≡ o.gives → cond b false (owes t os) ≡ cond b false (same_sight t o.gives || owes t os)
  by_same true h e = refl
  by_same false h e = ap (λ c. c || owes t os) (sym (ap (same_sight t) (sym e) ∙ h))

  by_other : (b : Bool) → same_sight t y ≡ b → same_sight y o.gives ≡ false → (same_sight t o.gives || cond b false (owes t os)) ≡ cond b false (same_sight t o.gives || owes t os)
  by_other true h n = ap (λ c. c || false) (ap (λ z. same_sight z o.gives) (sight_true t y h) ∙ n)
  by_other false h n = refl

module _ (w : Rules) (pair : Pair) where
  -- what may come by the state may come by what is remembered
  goes_of : (m : Memory) (placed : SightId → ℕ) (st : State) (moment : ℕ) (move : Move) → Matches w pair m placed st → OnlyOf pair move → MayMove w st moment move → GoesOn w m moment move
  goes_of m placed st moment (In s) k o h = tt
  goes_of m placed st moment (Act c s t) k o h =
      let waits : InTime w (cond (m.taken s) None (m.came s)) moment = subst (λ (x : Option ℕ). InTime w x moment) (k.waiting s) h.0 in
      let both = by_taken (m.taken s) refl waits in
      (both.0, both.1, sym (k.sent t) ∙ h.1, subst (λ (x : Option Allocation). w.MayAnswer c s t moment x) (ap (λ p. st.table p) (o c s t refl) ∙ k.table) h.2) where
        by_taken : (b : Bool) → m.taken s ≡ b → InTime w (cond b None (m.came s)) moment → IsInTime w.hold (m.came s) moment × (m.taken s ≡ false)
        by_taken true q i = absurd i
        by_taken false q i = (in_time_to w (m.came s) moment i, q)
  goes_of m placed st moment (Out t) k o h = by_owes (owes t m.owing) (subst (λ (x : Option ℕ). InTime w x moment) (k.owed t) h) where
    by_owes : (b : Bool) → InTime w (cond b (m.since t) None) moment → IsInTime w.hold (m.since t) moment
    by_owes true i = in_time_to w (m.since t) moment i
    by_owes false i = absurd i

  -- and back, where nothing is placed twice
  may_of : (m : Memory) (placed : SightId → ℕ) (st : State) (moment : ℕ) (move : Move) → Matches w pair m placed st → OnlyOf pair move → ((s : SightId) → counted placed move s ≤ 1) → GoesOn w m moment move → MayMove w st moment move
  may_of m placed st moment (In s) k o n h = tt
  may_of m placed st moment (Act c s t) k o n h = (
    subst (λ (x : Option ℕ). InTime w x moment) (sym (k.waiting s ∙ cond-false (m.taken s) None (m.came s) h.1)) (in_time_of w (m.came s) moment h.0),
    k.sent t ∙ h.2,
    subst (λ (x : Option Allocation). w.MayAnswer c s t moment x) (sym (ap (λ p. st.table p) (o c s t refl) ∙ k.table)) h.3,
  )
  may_of m placed st moment (Out t) k o n h = subst (λ (x : Option ℕ). InTime w x moment) (sym (k.owed t)) (by_owes (owes t m.owing) refl) where
    by_owes : (b : Bool) → owes t m.owing ≡ b → InTime w (cond b (m.since t) None) moment
    by_owes true q = in_time_of w (m.since t) moment h
    by_owes false q = absurd (let l = k.left_once t (in_time_some w.hold (m.since t) moment h) q in let c = one_if (same_sight t t) (sight_same t t refl) in omega (arith, n t, l))

  matches_step : (m : Memory) (placed : SightId → ℕ) (st : State) (e : Placed) (move : Move) → e.move ≡ move → Matches w pair m placed st → OnlyOf pair move → ((s : SightId) → counted placed move s ≤ 1) → GoesOn w m e.at.key.moment move →
      Matches w pair (remembered w m (record { at = e.at; move = move })) (counted placed move) (after w st (record { moment = e.at.key.moment; move = move }))
  matches_step m placed st e (In x) is k o n h =
      let new : m.came x ≡ None = none_is (m.came x) (λ q. let c = one_if (same_sight x x) (sight_same x x refl) in omega (arith, n x, k.came_once x q)) in
      let untaken : m.taken x ≡ false = by_bool (m.taken x) refl new in
      let came : came_after m e.at.key.moment (In x) ≡ put same_sight m.came x (Some e.at.key.moment) = ap (λ (p : Option ℕ). cond (is_some p) m.came (put same_sight m.came x (Some e.at.key.moment))) new in
      record {
        table = k.table;
        others = k.others;
        waiting = λ s. wait s untaken ∙ ap (λ (f : SightId → Option ℕ). cond (m.taken s) None (f s)) (sym came);
        owed = k.owed;
        sent = k.sent;
        came_once = λ s q. came_by s (subst (λ (f : SightId → Option ℕ). is_some (f s) ≡ true) came q);
        left_once = λ t q r. more_placed t placed (In x) (k.left_once t q r);
        taken_came = λ s q. subst (λ (f : SightId → Option ℕ). is_some (f s) ≡ true) (sym came) (taken_by s q);
        owed_sent = k.owed_sent;
      } where
        by_bool : (b : Bool) → m.taken x ≡ b → m.came x ≡ None → m.taken x ≡ false
        by_bool true q none = absurd (true≢false (sym (k.taken_came x q) ∙ ap is_some none))
        by_bool false q none = q

        wait : (s : SightId) → m.taken x ≡ false → put same_sight st.waiting x (Some e.at.key.moment) s ≡ cond (m.taken s) None (put same_sight m.came x (Some e.at.key.moment) s)
        wait s u = elim (same_sight s x) as (λ b. same_sight s x ≡ b → cond b (Some e.at.key.moment) (st.waiting s) ≡ cond (m.taken s) None (cond b (Some e.at.key.moment) (m.came s))) [
          | true ↦ λ q. sym (cond-false (m.taken s) None (Some e.at.key.moment) (ap m.taken (sight_true s x q) ∙ u))
          | false ↦ λ q. k.waiting s
        ] refl

        came_by : (s : SightId) → is_some (put same_sight m.came x (Some e.at.key.moment) s) ≡ true → 1 ≤ counted placed (In x) s
        came_by s q = elim (same_sight s x) as (λ b. same_sight s x ≡ b → is_some (cond b (Some e.at.key.moment) (m.came s)) ≡ true → 1 ≤ counted placed (In x) s) [
          | true ↦ λ i r. here_placed s placed (In x) (sight_same x s (sym (sight_true s x i)))
          | false ↦ λ i r. more_placed s placed (In x) (k.came_once s r)
        ] refl q

        taken_by : (s : SightId) → m.taken s ≡ true → is_some (put same_sight m.came x (Some e.at.key.moment) s) ≡ true
        taken_by s q = elim (same_sight s x) as (λ b. is_some (cond b (Some e.at.key.moment) (m.came s)) ≡ true) [ true ↦ refl | false ↦ k.taken_came s q ]
  matches_step m placed st e (Act c x y) is k o n h = record {
    table = ap (λ p. put same_client st.table c (acted w e.at.key.moment (Act c x y) (st.table c)) p) (sym (o c x y refl)) ∙ cond-true (same_client c c) (acted w e.at.key.moment (Act c x y) (st.table c)) (st.table c) (client_same c c refl)
        ∙ ap (acted w e.at.key.moment (Act c x y)) (ap (λ p. st.table p) (o c x y refl) ∙ k.table);
    others = λ d ne. put_client st.table c (acted w e.at.key.moment (Act c x y) (st.table c)) d (λ i. ne (i ∙ o c x y refl)) ∙ k.others d ne;
    waiting = λ s. elim (same_sight s x) as (λ b. cond b None (st.waiting s) ≡ cond (cond b true (m.taken s)) None (m.came s)) [ true ↦ refl | false ↦ k.waiting s ];
    owed = λ t. owe t ∙ ap (λ b. cond b (put same_sight m.since y (m.came x) t) None) (sym (owes_push t m.owing (record { at = e.at; sight = x; gives = y })));
    sent = λ t. elim (same_sight t y) as (λ b. cond b true (st.sent t) ≡ is_some (cond b (m.came x) (m.since t))) [ true ↦ sym (in_time_some w.hold (m.came x) e.at.key.moment h.0) | false ↦ k.sent t ];
    came_once = λ s q. more_placed s placed (Act c x y) (k.came_once s q);
    left_once = λ t q r.
        let both = or_cases (owes t m.owing) (same_sight t y) (sym (owes_push t m.owing (record { at = e.at; sight = x; gives = y })) ∙ r) in
        more_placed t placed (Act c x y) (k.left_once t (sym (ap is_some (cond-false (same_sight t y) (m.came x) (m.since t) both.1)) ∙ q) both.0);
    taken_came = λ s q. elim (same_sight s x) as (λ b. same_sight s x ≡ b → cond b true (m.taken s) ≡ true → is_some (m.came s) ≡ true) [
      | true ↦ λ i r. ap (λ z. is_some (m.came z)) (sight_true s x i) ∙ in_time_some w.hold (m.came x) e.at.key.moment h.0
      | false ↦ λ i r. k.taken_came s r
    ] refl q;
    owed_sent = λ t q. elim (same_sight t y) as (λ b. (owes t m.owing || b) ≡ true → is_some (cond b (m.came x) (m.since t)) ≡ true) [
      | true ↦ λ r. in_time_some w.hold (m.came x) e.at.key.moment h.0
      | false ↦ λ r. k.owed_sent t (sym (or_none (owes t m.owing)) ∙ r)
    ] (sym (owes_push t m.owing (record { at = e.at; sight = x; gives = y })) ∙ q);
  } where
    or_none : (b : Bool) → (b || false) ≡ b
    or_none true = refl
    or_none false = refl

    owe : (t : SightId) → put same_sight st.owed y (st.waiting x) t ≡ cond (owes t m.owing || same_sight t y) (put same_sight m.since y (m.came x) t) None
    owe t = elim (same_sight t y) as (λ b. cond b (st.waiting x) (st.owed t) ≡ cond (owes t m.owing || b) (cond b (m.came x) (m.since t)) None) [
      | true ↦ k.waiting x ∙ cond-false (m.taken x) None (m.came x) h.1 ∙ sym (cond-true (owes t m.owing || true) (m.came x) None (or_true (owes t m.owing)))
      | false ↦ k.owed t ∙ ap (λ b. cond b (m.since t) None) (sym (or_none (owes t m.owing)))
    ] where
      or_true : (b : Bool) → (b || true) ≡ true
      or_true true = refl
      or_true false = refl
  matches_step m placed st e (Out y) is k o n h = record {
    table = k.table;
    others = k.others;
    waiting = k.waiting;
    owed = λ t. elim (same_sight t y) as (λ b. cond b None (st.owed t) ≡ cond (cond b false (owes t m.owing)) (m.since t) None) [ true ↦ refl | false ↦ k.owed t ] ∙ ap (λ b. cond b (m.since t) None) (sym (owes_filter t y m.owing));
    sent = k.sent;
    came_once = λ s q. more_placed s placed (Out y) (k.came_once s q);
    left_once = λ t q r. elim (same_sight t y) as (λ b. same_sight t y ≡ b → cond b false (owes t m.owing) ≡ false → 1 ≤ counted placed (Out y) t) [
      | true ↦ λ i z. here_placed t placed (Out y) (sight_same y t (sym (sight_true t y i)))
      | false ↦ λ i z. more_placed t placed (Out y) (k.left_once t q z)
    ] refl (sym (owes_filter t y m.owing) ∙ r);
    taken_came = k.taken_came;
    owed_sent = λ t q. elim (same_sight t y) as (λ b. cond b false (owes t m.owing) ≡ true → is_some (m.since t) ≡ true) [
      | true ↦ λ z. absurd (true≢false (sym z))
      | false ↦ λ z. k.owed_sent t z
    ] (sym (owes_filter t y m.owing) ∙ q);
  }

  -- no other client has anything
  free_change : (st : State) (moment : ℕ) (c : Pair) → c ≡ pair → ((d : Pair) → d ≢ pair → st.table d ≡ None) → (ch : Change) → IsFree w st moment c ch
  free_change st moment c o f Same = tt
  free_change st moment c o f (Makes made) = λ other ne h. subst (λ (x : Option Allocation). HasAddress w.grace moment made.relayed x) (f other (λ e. ne (e ∙ sym o))) h
  free_change st moment c o f (Renews until) = tt
  free_change st moment c o f (Grants ips until) = tt
  free_change st moment c o f (Binds number peer until permitted) = tt
  free_change st moment c o f Removes = tt

  free_move : (st : State) (moment : ℕ) (move : Move) → OnlyOf pair move → ((d : Pair) → d ≢ pair → st.table d ≡ None) → HandsOutFree w st moment move
  free_move st moment (In s) o f = tt
  free_move st moment (Act c s t) o f = free_change st moment c (o c s t refl) f (w.change c s t moment (st.table c))
  free_move st moment (Out t) o f = tt

  one_more : (placed : SightId → ℕ) (e : Placed) (es : List Placed) → ((s : SightId) → placed s + times_placed s (map step_of (e ∷ es)) ≤ 1) → (s : SightId) → counted placed e.move s + times_placed s (map step_of es) ≤ 1
  one_more placed e es n s = omega (arith, n s, count_cons (λ (d : Step). places s d.move) (step_of e) (map step_of es))

  up_to_one : (placed : SightId → ℕ) (e : Placed) (es : List Placed) → ((s : SightId) → placed s + times_placed s (map step_of (e ∷ es)) ≤ 1) → (s : SightId) → counted placed e.move s ≤ 1
  up_to_one placed e es n s = omega (arith, one_more placed e es n s)

  abbrev NotPast : State → List Placed → Type 0
  NotPast st es = AllByRecursion (λ (e : Placed). st.now ≤ e.at.key.moment) es

  next_past : (e : Placed) (es : List Placed) → AllByRecursion (λ (d : Placed). at_cmp e.at d.at ≡ Less) es → AllByRecursion (λ (d : Placed). e.at.key.moment ≤ d.at.key.moment) es
  next_past e es h = all_weaker (λ (d : Placed). at_cmp e.at d.at ≡ Less) (λ (d : Placed). e.at.key.moment ≤ d.at.key.moment) (λ d l. moment_le e.at d.at l) es h

  pub runs_of_going : (es : List Placed) (m : Memory) (placed : SightId → ℕ) (st : State) → Matches w pair m placed st → AllByRecursion (λ (e : Placed). OnlyOf pair e.move) es → ((s : SightId) → placed s + times_placed s (map step_of es) ≤ 1) →
      Rises es → NotPast st es → AllGoOn w m es → Runs w st es
  unfolding IsStrictlySortedBy
  runs_of_going [] m placed st k o n r p h = tt
  runs_of_going (e ∷ es) m placed st k o n r p h = (
    record {
      in_order = p.0;
      may = may_of m placed st e.at.key.moment e.move k o.0 (up_to_one placed e es n) h.0;
      free = free_move st e.at.key.moment e.move o.0 k.others;
    },
    runs_of_going es (remembered w m e) (counted placed e.move) (after w st (step_of e)) (matches_step m placed st e e.move refl k o.0 (up_to_one placed e es n) h.0) o.1 (one_more placed e es n) r.1 (next_past e es r.0) h.1,
  )

  pub going_of_runs : (es : List Placed) (m : Memory) (placed : SightId → ℕ) (st : State) → Matches w pair m placed st → AllByRecursion (λ (e : Placed). OnlyOf pair e.move) es → ((s : SightId) → placed s + times_placed s (map step_of es) ≤ 1) →
      Runs w st es → AllGoOn w m es
  going_of_runs [] m placed st k o n h = tt
  going_of_runs (e ∷ es) m placed st k o n h =
      let g : GoesOn w m e.at.key.moment e.move = goes_of m placed st e.at.key.moment e.move k o.0 h.0.may in
      (g, going_of_runs es (remembered w m e) (counted placed e.move) (after w st (step_of e)) (matches_step m placed st e e.move refl k o.0 (up_to_one placed e es n) g) o.1 (one_more placed e es n) h.1)

  -- where the events lead, what the lane remembers is the server's state
  pub matches_all : (es : List Placed) (m : Memory) (placed : SightId → ℕ) (st : State) → Matches w pair m placed st → AllByRecursion (λ (e : Placed). OnlyOf pair e.move) es → ((s : SightId) → placed s + times_placed s (map step_of es) ≤ 1) →
      AllGoOn w m es → (now : SightId → ℕ) × Matches w pair (remembered_all w m es) now (led w st es)
  matches_all [] m placed st k o n h = (placed, k)
  matches_all (e ∷ es) m placed st k o n h = matches_all es (remembered w m e) (counted placed e.move) (after w st (step_of e)) (matches_step m placed st e e.move refl k o.0 (up_to_one placed e es n) h.0) o.1 (one_more placed e es n) h.1

  -- the server owes nothing exactly where the lane has nothing that is owed
  none_owing : (os : List Owing) → ((t : SightId) → owes t os ≡ false) → os ≡ []
  none_owing [] f = refl
  none_owing (o ∷ os) f = absurd (true≢false (sym (ap (λ b. b || owes o.gives os) (sight_same o.gives o.gives refl)) ∙ f o.gives))

  pub owing_of : (m : Memory) (placed : SightId → ℕ) (st : State) → Matches w pair m placed st → ((t : SightId) → st.owed t ≡ None) → m.owing ≡ []
  owing_of m placed st k f = none_owing m.owing (λ t. by_owes t (owes t m.owing) refl) where
    by_owes : (t : SightId) (b : Bool) → owes t m.owing ≡ b → owes t m.owing ≡ false
    by_owes t true q = absurd (true≢false (sym (k.owed_sent t q) ∙ ap is_some (sym (cond-true (owes t m.owing) (m.since t) None q) ∙ sym (k.owed t) ∙ f t)))
    by_owes t false q = q

  pub nothing_owing : (m : Memory) (placed : SightId → ℕ) (st : State) → Matches w pair m placed st → m.owing ≡ [] → (t : SightId) → st.owed t ≡ None
  nothing_owing m placed st k e t = k.owed t ∙ ap (λ (os : List Owing). cond (owes t os) (m.since t) None) e
