-- In a run that places each sighting at most once and owes nothing, one act names a sighting at most.
use Rattle.std.proofs.Common.{◌≡◌, ◌≢◌, ◌≤◌, ◌+◌, ◌⊎◌, inl, inr, ℕ, Bool, true, false, Option, Some, None, List, [], ◌∷◌, ◌++◌, cond, refl, sym, ◌∙◌, ap, subst, arith}
use Rattle.std.proofs.Common.{append_assoc}
use Rattle.std.specs.Prelude.{count_by, ◌||◌}
use Rattle.std.specs.List.{fold, AllByRecursion}
use Rattle.std.proofs.lemmas.Bool.{cond-true, cond-false}
use Rattle.audit_model.specs.declared.sighting.SightId.{SightId}
use Rattle.audit_model.proofs.Sames.{sight_true, sight_same, sight_apart}
use Rattle.audit_model.specs.Sames.{same_sight}
use Rattle.audit_model.specs.declared.pair.Pair.{Pair}
use Rattle.audit_server.specs.Acting.{acting, acting_by}
use Rattle.audit_server.specs.Holding.{AnyOf}
use Rattle.audit_server.specs.Placing.{places, times_placed}
use Rattle.audit_server.specs.Rules.{Rules}
use Rattle.audit_server.specs.Run.{InTime, Allowed, RunFrom, IsRun}
use Rattle.audit_server.specs.State.{State, at_first, after, waiting_after, owed_after, sent_after}
use Rattle.audit_server.specs.Step.{Step, Move, In, Act, Out}
use Rattle.audit_server.proofs.Orders.{all_right}
use Rattle.audit_server.proofs.Sorting.{count_cons}

-- ---- runs, cut in two

pub fold_cut : (w : Rules) (p q : List Step) (st : State) → fold (after w) st (p ++ q) ≡ fold (after w) (fold (after w) st p) q
fold_cut w [] q st = refl
fold_cut w (e ∷ p) q st = fold_cut w p q (after w st e)

pub run_cut : (w : Rules) (p q : List Step) (st : State) → RunFrom w st (p ++ q) → RunFrom w (fold (after w) st p) q
run_cut w [] q st r = r
run_cut w (e ∷ p) q st r = run_cut w p q (after w st e) r.1

pub splits_all : {A : Type 0} (P : A → Type 0) (xs : List A) → ((p : List A) (x : A) (q : List A) → p ++ x ∷ q ≡ xs → P x) → AllByRecursion P xs
splits_all P [] f = tt
splits_all P (x ∷ xs) f = (f [] x xs refl, splits_all P xs (λ p y q h. f (x ∷ p) y q (ap (λ ys. x ∷ ys) h)))

-- ---- counts of arrivals and departures

abbrev pub is_in : SightId → Move → Bool
is_in s (In x) = same_sight x s
is_in s (Act c x y) = false
is_in s (Out x) = false

abbrev pub is_out : SightId → Move → Bool
is_out s (In x) = false
is_out s (Act c x y) = false
is_out s (Out x) = same_sight x s

abbrev pub ins : SightId → List Step → ℕ
ins s es = count_by (λ (e : Step). is_in s e.move) es

abbrev pub outs : SightId → List Step → ℕ
outs s es = count_by (λ (e : Step). is_out s e.move) es

one : (s : SightId) (m : Move) → cond {A = ℕ} (places s m) 1 0 ≡ cond {A = ℕ} (is_in s m) 1 0 + cond {A = ℕ} (is_out s m) 1 0
one s (In x) = omega arith
one s (Act c x y) = omega arith
one s (Out x) = omega arith

pub both_counts : (s : SightId) (es : List Step) → times_placed s es ≡ ins s es + outs s es
both_counts s [] = refl
both_counts s (e ∷ es) = omega (arith, count_cons (λ (d : Step). places s d.move) e es, count_cons (λ (d : Step). is_in s d.move) e es, count_cons (λ (d : Step). is_out s d.move) e es, one s e.move, both_counts s es)

cut_count : (f : Step → Bool) (p q : List Step) → count_by f (p ++ q) ≡ count_by f p + count_by f q
cut_count f [] q = omega arith
cut_count f (e ∷ p) q = omega (arith, count_cons f e (p ++ q), count_cons f e p, cut_count f p q)

pub in_once : (s : SightId) (es : List Step) → AnyOf (λ (e : Step). e.move ≡ In s) es → 1 ≤ ins s es
in_once s [] h = absurd h
in_once s (e ∷ es) (inl h) = let c : cond {A = ℕ} (is_in s e.move) 1 0 ≡ 1 = ap (λ m. cond {A = ℕ} (is_in s m) 1 0) h ∙ cond-true (same_sight s s) 1 0 (sight_same s s refl) in omega (arith, count_cons (λ (d : Step). is_in s d.move) e es)
in_once s (e ∷ es) (inr h) = omega (arith, count_cons (λ (d : Step). is_in s d.move) e es, in_once s es h)

pub out_once : (s : SightId) (es : List Step) → AnyOf (λ (e : Step). e.move ≡ Out s) es → 1 ≤ outs s es
out_once s [] h = absurd h
out_once s (e ∷ es) (inl h) = let c : cond {A = ℕ} (is_out s e.move) 1 0 ≡ 1 = ap (λ m. cond {A = ℕ} (is_out s m) 1 0) h ∙ cond-true (same_sight s s) 1 0 (sight_same s s refl) in omega (arith, count_cons (λ (d : Step). is_out s d.move) e es)
out_once s (e ∷ es) (inr h) = omega (arith, count_cons (λ (d : Step). is_out s d.move) e es, out_once s es h)

no_in : (s : SightId) (es : List Step) → ins s es ≡ 0 → AllByRecursion (λ (e : Step). e.move ≢ In s) es
no_in s [] h = tt
no_in s (e ∷ es) h = (
  λ k. let c : cond {A = ℕ} (is_in s e.move) 1 0 ≡ 1 = ap (λ m. cond {A = ℕ} (is_in s m) 1 0) k ∙ cond-true (same_sight s s) 1 0 (sight_same s s refl) in absurd (omega (arith, count_cons (λ (d : Step). is_in s d.move) e es)),
  no_in s es (omega (arith, count_cons (λ (d : Step). is_in s d.move) e es)),
)

-- ---- what the state says of the steps before and after

pub not_none : (w : Rules) (x : Option ℕ) (moment : ℕ) → InTime w x moment → x ≢ None
not_none w None moment h e = h
not_none w (Some m) moment h e = absurd (let k : Some m ≡ None = e in cc)

came_move : (s : SightId) (st : State) (moment : ℕ) (move : Move) → st.waiting s ≡ None → (move ≡ In s) ⊎ (waiting_after st moment move s ≡ None)
came_move s st moment (In x) h = elim (same_sight s x) as (λ b. (same_sight s x) ≡ b → (In x ≡ In s) ⊎ (cond b (Some moment) (st.waiting s) ≡ None)) [ true ↦ λ q. inl (ap In (sym (sight_true s x q))) | false ↦ λ q. inr h ] refl
came_move s st moment (Act c x y) h = inr (elim (same_sight s x) as (λ b. cond b None (st.waiting s) ≡ None) [ true ↦ refl | false ↦ h ])
came_move s st moment (Out y) h = inr h

-- what waits came in
pub came_in : (w : Rules) (s : SightId) (es : List Step) (st : State) → st.waiting s ≡ None → (fold (after w) st es).waiting s ≢ None → AnyOf (λ (e : Step). e.move ≡ In s) es
came_in w s [] st h n = absurd (n h)
came_in w s (e ∷ es) st h n = elim (came_move s st e.moment e.move h) [ inl k ↦ inl k | inr k ↦ inr (came_in w s es (after w st e) k n) ]

left_move : (w : Rules) (t : SightId) (st : State) (e : Step) → Allowed w st e → st.owed t ≢ None → (m : Move) → e.move ≡ m → (m ≡ Out t) ⊎ (owed_after st e.moment m t ≢ None)
left_move w t st e a o (In x) is = inr o
left_move w t st e a o (Act c x y) is = inr (elim (same_sight t y) as (λ b. cond b (st.waiting x) (st.owed t) ≢ None) [ true ↦ not_none w (st.waiting x) e.moment ((rw is at a.may).0) | false ↦ o ])
left_move w t st e a o (Out y) is = elim (same_sight t y) as (λ b. (same_sight t y) ≡ b → (Out y ≡ Out t) ⊎ (cond b None (st.owed t) ≢ None)) [ true ↦ λ q. inl (ap Out (sym (sight_true t y q))) | false ↦ λ q. inr o ] refl

-- what is owed leaves
pub leaves : (w : Rules) (t : SightId) (es : List Step) (st : State) → RunFrom w st es → st.owed t ≢ None → (fold (after w) st es).owed t ≡ None → AnyOf (λ (e : Step). e.move ≡ Out t) es
leaves w t [] st r o n = absurd (o n)
leaves w t (e ∷ es) st r o n = elim (left_move w t st e r.0 o e.move refl) [ inl k ↦ inl k | inr k ↦ inr (leaves w t es (after w st e) r.1 k n) ]

gave_move : (t : SightId) (st : State) (moment : ℕ) (move : Move) → st.owed t ≡ None → ((c : Pair) × (s : SightId) × (move ≡ Act c s t)) ⊎ (owed_after st moment move t ≡ None)
gave_move t st moment (In x) h = inr h
gave_move t st moment (Act c x y) h = elim (same_sight t y) as (λ b. (same_sight t y) ≡ b → ((d : Pair) × (s : SightId) × (Act c x y ≡ Act d s t)) ⊎ (cond b (st.waiting x) (st.owed t) ≡ None)) [ true ↦ λ q. inl (c, x, ap (Act c x) (sym (sight_true t y q))) | false ↦ λ q. inr h ] refl
gave_move t st moment (Out y) h = inr (elim (same_sight t y) as (λ b. cond b None (st.owed t) ≡ None) [ true ↦ refl | false ↦ h ])

-- what is owed was given
pub gave : (w : Rules) (t : SightId) (es : List Step) (st : State) → st.owed t ≡ None → (fold (after w) st es).owed t ≢ None → AnyOf (λ (e : Step). (c : Pair) × (s : SightId) × (e.move ≡ Act c s t)) es
gave w t [] st h n = absurd (n h)
gave w t (e ∷ es) st h n = elim (gave_move t st e.moment e.move h) [ inl k ↦ inl k | inr k ↦ inr (gave w t es (after w st e) k n) ]

-- what doesn't wait, and doesn't come, isn't taken
taken_not : (w : Rules) (s : SightId) (es : List Step) (st : State) → RunFrom w st es → st.waiting s ≡ None → AllByRecursion (λ (e : Step). e.move ≢ In s) es → AllByRecursion (λ (e : Step). (c : Pair) (t : SightId) → e.move ≢ Act c s t) es
taken_not w s [] st r n a = tt
taken_not w s (e ∷ es) st r n a = (
  λ c t is. not_none w (st.waiting s) e.moment ((rw is at r.0.may).0) n,
  taken_not w s es (after w st e) r.1 (elim (came_move s st e.moment e.move n) [ inl k ↦ absurd (a.0 k) | inr k ↦ k ]) a.1,
)

sent_stays : (t : SightId) (st : State) (move : Move) → st.sent t ≡ true → sent_after st move t ≡ true
sent_stays t st (In x) h = h
sent_stays t st (Act c x y) h = elim (same_sight t y) as (λ b. cond b true (st.sent t) ≡ true) [ true ↦ refl | false ↦ h ]
sent_stays t st (Out y) h = h

-- what was given isn't given again
given_not : (w : Rules) (t : SightId) (es : List Step) (st : State) → RunFrom w st es → st.sent t ≡ true → AllByRecursion (λ (e : Step). (c : Pair) (s : SightId) → e.move ≢ Act c s t) es
given_not w t [] st r g = tt
given_not w t (e ∷ es) st r g = (
  λ c s is. let f : st.sent t ≡ false = (rw is at r.0.may).1 in let k : true ≡ false = sym g ∙ f in cc,
  given_not w t es (after w st e) r.1 (sent_stays t st e.move g),
)

-- ---- one act alone names a sighting

abbrev NamesNot : SightId → Move → Type 0
NamesNot x m = (c : Pair) (u v : SightId) → m ≡ Act c u v → (x ≢ u) × (x ≢ v)

named_past : (x : SightId) (c : Pair) (s t : SightId) (moment : ℕ) (p q : List Step) → (x ≡ s) ⊎ (x ≡ t) → AllByRecursion (λ (e : Step). NamesNot x e.move) p → acting x (p ++ record { moment = moment; move = Act c s t } ∷ q) ≡ Some (c)
named_past x c s t moment [] q h a = cond-true ((same_sight x s) || (same_sight x t)) (Some (c)) (acting x q) (elim h [
  | inl e ↦ ap (λ b. b || (same_sight x t)) (sight_same x s e)
  | inr e ↦ ap (λ b. (same_sight x s) || b) (sight_same x t e) ∙ or_true (same_sight x s)
]) where
  or_true : (b : Bool) → (b || true) ≡ true
  or_true true = refl
  or_true false = refl
named_past x c s t moment (e ∷ p) q h a = past e.move a.0 ∙ named_past x c s t moment p q h a.1 where
  past : (m : Move) → NamesNot x m → acting_by x m (acting x (p ++ record { moment = moment; move = Act c s t } ∷ q)) ≡ acting x (p ++ record { moment = moment; move = Act c s t } ∷ q)
  past (In y) n = refl
  past (Act d u v) n = let k = n d u v refl in cond-false ((same_sight x u) || (same_sight x v)) _ _ (ap (λ b. b || (same_sight x v)) (sight_apart x u k.0) ∙ sight_apart x v k.1)
  past (Out y) n = refl

taken_waits : (st : State) (moment : ℕ) (c : Pair) (u v : SightId) (m : Move) → m ≡ Act c u v → waiting_after st moment m u ≡ None
taken_waits st moment c u v m is = subst (λ (k : Move). waiting_after st moment k u ≡ None) (sym is) (cond-true (same_sight u u) None (st.waiting u) (sight_same u u refl))

pub given_owes : (w : Rules) (st : State) (e : Step) (c : Pair) (u v : SightId) → Allowed w st e → e.move ≡ Act c u v → owed_after st e.moment e.move v ≢ None
given_owes w st e c u v a is = subst (λ (k : Move). owed_after st e.moment k v ≢ None) (sym is) (λ h. not_none w (st.waiting u) e.moment ((rw is at a.may).0) (sym (cond-true (same_sight v v) (st.waiting u) (st.owed v) (sight_same v v refl)) ∙ h))

sent_sent : (st : State) (c : Pair) (u v : SightId) (m : Move) → m ≡ Act c u v → sent_after st m v ≡ true
sent_sent st c u v m is = subst (λ (k : Move). sent_after st k v ≡ true) (sym is) (cond-true (same_sight v v) true (st.sent v) (sight_same v v refl))

module _ (w : Rules) (p1 : List Step) (d : Step) (p2 : List Step) (a : Step) (q : List Step)
    (run : RunFrom w at_first (p1 ++ d ∷ (p2 ++ a ∷ q))) (none : (t : SightId) → (fold (after w) at_first (p1 ++ d ∷ (p2 ++ a ∷ q))).owed t ≡ None)
    (once : (s : SightId) → times_placed s (p1 ++ d ∷ (p2 ++ a ∷ q)) ≤ 1) (b c : Pair) (u v s t : SightId) (d_is : d.move ≡ Act b u v) (a_is : a.move ≡ Act c s t) where
  at_d : State
  at_d = fold (after w) at_first p1

  from_d : RunFrom w (fold (after w) at_first p1) (d ∷ (p2 ++ a ∷ q))
  from_d = run_cut w p1 (d ∷ (p2 ++ a ∷ q)) at_first run

  from_a : RunFrom w (fold (after w) (after w (fold (after w) at_first p1) d) p2) (a ∷ q)
  from_a = run_cut w p2 (a ∷ q) (after w (fold (after w) at_first p1) d) from_d.1

  end_d : (x : SightId) → (fold (after w) (after w (fold (after w) at_first p1) d) (p2 ++ a ∷ q)).owed x ≡ None
  end_d x = subst (λ (st : State). st.owed x ≡ None) (fold_cut w p1 (d ∷ (p2 ++ a ∷ q)) at_first) (none x)

  end_a : (x : SightId) → (fold (after w) (after w (fold (after w) (after w (fold (after w) at_first p1) d) p2) a) q).owed x ≡ None
  end_a x = subst (λ (st : State). st.owed x ≡ None) (fold_cut w p2 (a ∷ q) (after w (fold (after w) at_first p1) d)) (end_d x)

  counts : (x : SightId) → (ins x p1 + ins x p2 + ins x q) + (outs x p1 + outs x p2 + outs x q) ≤ 1
  counts x =
      let d_in : cond {A = ℕ} (is_in x d.move) 1 0 ≡ 0 = ap (λ m. cond {A = ℕ} (is_in x m) 1 0) d_is in
      let d_out : cond {A = ℕ} (is_out x d.move) 1 0 ≡ 0 = ap (λ m. cond {A = ℕ} (is_out x m) 1 0) d_is in
      let a_in : cond {A = ℕ} (is_in x a.move) 1 0 ≡ 0 = ap (λ m. cond {A = ℕ} (is_in x m) 1 0) a_is in
      let a_out : cond {A = ℕ} (is_out x a.move) 1 0 ≡ 0 = ap (λ m. cond {A = ℕ} (is_out x m) 1 0) a_is in
      let k = once x in
      omega (arith, both_counts x (p1 ++ d ∷ (p2 ++ a ∷ q)), cut_count (λ (e : Step). is_in x e.move) p1 (d ∷ (p2 ++ a ∷ q)), cut_count (λ (e : Step). is_in x e.move) p2 (a ∷ q), cut_count (λ (e : Step). is_out x e.move) p1 (d ∷ (p2 ++ a ∷ q)), cut_count (λ (e : Step). is_out x e.move) p2 (a ∷ q), count_cons (λ (e : Step). is_in x e.move) d (p2 ++ a ∷ q), count_cons (λ (e : Step). is_in x e.move) a q, count_cons (λ (e : Step). is_out x e.move) d (p2 ++ a ∷ q), count_cons (λ (e : Step). is_out x e.move) a q)

  u_came : 1 ≤ ins u p1
  u_came = in_once u p1 (came_in w u p1 at_first refl (not_none w _ d.moment ((rw d_is at from_d.0.may).0)))

  later_outs : (x : SightId) → outs x (p2 ++ a ∷ q) ≡ outs x p2 + outs x q
  later_outs x =
      let a_out : cond {A = ℕ} (is_out x a.move) 1 0 ≡ 0 = ap (λ m. cond {A = ℕ} (is_out x m) 1 0) a_is in
      omega (arith, cut_count (λ (e : Step). is_out x e.move) p2 (a ∷ q), count_cons (λ (e : Step). is_out x e.move) a q)

  later_ins : (x : SightId) → ins x (p2 ++ a ∷ q) ≡ ins x p2 + ins x q
  later_ins x =
      let a_in : cond {A = ℕ} (is_in x a.move) 1 0 ≡ 0 = ap (λ m. cond {A = ℕ} (is_in x m) 1 0) a_is in
      omega (arith, cut_count (λ (e : Step). is_in x e.move) p2 (a ∷ q), count_cons (λ (e : Step). is_in x e.move) a q)

  v_left : 1 ≤ outs v p2 + outs v q
  v_left = omega (arith, later_outs v, out_once v (p2 ++ a ∷ q) (leaves w v (p2 ++ a ∷ q) (after w (fold (after w) at_first p1) d) from_d.1 (given_owes w (fold (after w) at_first p1) d b u v from_d.0 d_is) (end_d v)))

  t_left : 1 ≤ outs t q
  t_left = out_once t q (leaves w t q (after w (fold (after w) (after w (fold (after w) at_first p1) d) p2) a) from_a.1 (given_owes w (fold (after w) (after w (fold (after w) at_first p1) d) p2) a c s t from_a.0 a_is) (end_a t))

  s_came : 1 ≤ ins s p1 + ins s p2
  s_came =
      let d_in : cond {A = ℕ} (is_in s d.move) 1 0 ≡ 0 = ap (λ m. cond {A = ℕ} (is_in s m) 1 0) d_is in
      let h : AnyOf (λ (e : Step). e.move ≡ In s) (p1 ++ d ∷ p2) = came_in w s (p1 ++ d ∷ p2) at_first refl (subst (λ (st : State). st.waiting s ≢ None) (sym (fold_cut w p1 (d ∷ p2) at_first)) (not_none w _ a.moment ((rw a_is at from_a.0.may).0))) in
      omega (arith, in_once s (p1 ++ d ∷ p2) h, cut_count (λ (e : Step). is_in s e.move) p1 (d ∷ p2), count_cons (λ (e : Step). is_in s e.move) d p2)

  s_not_u : s ≢ u
  s_not_u e =
      let n = counts u in let k = u_came in
      let z : ins u (p2 ++ a ∷ q) ≡ 0 = omega (arith, later_ins u) in
      (all_right (λ (x : Step). (d : Pair) (y : SightId) → x.move ≢ Act d u y) p2 (a ∷ q)
      (taken_not w u (p2 ++ a ∷ q) (after w (fold (after w) at_first p1) d) from_d.1 (taken_waits (fold (after w) at_first p1) d.moment b u v d.move d_is) (no_in u (p2 ++ a ∷ q) z))).0 c t (a_is ∙ ap (λ x. Act c x t) e)

  s_not_v : s ≢ v
  s_not_v e =
      let n = counts v in let k = v_left in
      let h : 1 ≤ ins v p1 + ins v p2 = subst (λ (x : SightId). 1 ≤ ins x p1 + ins x p2) e s_came in
      absurd (omega arith)

  t_not_u : t ≢ u
  t_not_u e =
      let n = counts u in let k = u_came in
      let h : 1 ≤ outs u q = subst (λ (x : SightId). 1 ≤ outs x q) e t_left in
      absurd (omega arith)

  t_not_v : t ≢ v
  t_not_v e =
      (all_right (λ (x : Step). (d : Pair) (y : SightId) → x.move ≢ Act d y v) p2 (a ∷ q)
      (given_not w v (p2 ++ a ∷ q) (after w (fold (after w) at_first p1) d) from_d.1 (sent_sent (fold (after w) at_first p1) b u v d.move d_is))).0 c s (a_is ∙ ap (Act c s) e)

-- each act that names a sighting is the first that does
pub named : (w : Rules) (p : List Step) (a : Step) (q : List Step) → IsRun w (p ++ a ∷ q) → ((s : SightId) → times_placed s (p ++ a ∷ q) ≤ 1) → (c : Pair) (s t x : SightId) → a.move ≡ Act c s t → (x ≡ s) ⊎ (x ≡ t) → acting x (p ++ a ∷ q) ≡ Some (c)
named w p a q r once c s t x is xs =
    subst (λ (k : Move). acting x (p ++ record { moment = a.moment; move = k } ∷ q) ≡ Some (c)) (sym is)
    (named_past x c s t a.moment p q xs (splits_all (λ (e : Step). NamesNot x e.move) p (λ p1 d p2 h b u v d_is.
    let e : p1 ++ d ∷ (p2 ++ a ∷ q) ≡ p ++ a ∷ q = sym (append_assoc p1 (d ∷ p2) (a ∷ q)) ∙ ap (λ l. l ++ a ∷ q) h in
    let run : RunFrom w at_first (p1 ++ d ∷ (p2 ++ a ∷ q)) = subst (λ (l : List Step). RunFrom w at_first l) (sym e) r.runs in
    let none : (y : SightId) → (fold (after w) at_first (p1 ++ d ∷ (p2 ++ a ∷ q))).owed y ≡ None = subst (λ (l : List Step). (y : SightId) → (fold (after w) at_first l).owed y ≡ None) (sym e) r.nothing_owed in
    let few : (y : SightId) → times_placed y (p1 ++ d ∷ (p2 ++ a ∷ q)) ≤ 1 = subst (λ (l : List Step). (y : SightId) → times_placed y l ≤ 1) (sym e) once in
    elim xs [
      | inl i ↦ ((λ k. s_not_u w p1 d p2 a q run none few b c u v s t d_is is (sym i ∙ k)), (λ k. s_not_v w p1 d p2 a q run none few b c u v s t d_is is (sym i ∙ k)))
      | inr i ↦ ((λ k. t_not_u w p1 d p2 a q run none few b c u v s t d_is is (sym i ∙ k)), (λ k. t_not_v w p1 d p2 a q run none few b c u v s t d_is is (sym i ∙ k)))
    ])))
