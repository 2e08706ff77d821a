-- From states that are alike the same steps lead to states that are alike.
use Rattle.std.proofs.Common.{◌≡◌, ◌≤◌, inl, inr, ℕ, true, false, Option, Some, None, List, [], ◌∷◌, cond, refl, sym, ◌∙◌, ap, subst, arith}
use Rattle.std.specs.List.{fold, AllByRecursion}
use Rattle.audit_model.specs.declared.pair.Pair.{Pair}
use Rattle.audit_model.specs.Sames.{same_sight, same_client}
use Rattle.audit_rules.specs.Allocation.{Allocation, Change, Same, Makes, Renews, Grants, Binds, Removes, applied}
use Rattle.audit_server.specs.Rules.{Rules}
use Rattle.audit_server.specs.Run.{InTime, MayMove, IsFree, HandsOutFree, Allowed, RunFrom}
use Rattle.audit_server.specs.State.{State, after, acted}
use Rattle.audit_server.specs.Step.{Step, Move, In, Act, Out}
use Rattle.audit_segments.specs.PastGrace.{AreAlikeEntries}
use Rattle.audit_segments.specs.Ignore.{IgnorePastGrace}
use Rattle.audit_segments.specs.Alike.{IsTooOld, AreAlikeTimes, AreAlike}
use Rattle.audit_segments.specs.Cut.{Cut, MayName}
use Rattle.audit_segments.proofs.Entries.{either_weaker, entry_later, held_alike}

too_old_later : (hold now next : ℕ) → now ≤ next → (o : Option ℕ) → IsTooOld hold now o → IsTooOld hold next o
too_old_later hold now next le None h = tt
too_old_later hold now next le (Some came) h = omega (arith, le, h)

pub times_later : (hold now next : ℕ) → now ≤ next → (x y : Option ℕ) → AreAlikeTimes hold now x y → AreAlikeTimes hold next x y
times_later hold now next le x y h = either_weaker (IsTooOld hold now) (IsTooOld hold next) (too_old_later hold now next le) x y h

module _ (w : Rules) (ignore_past_grace : IgnorePastGrace w) (cut : Cut) where
  abbrev pub Sames : State → State → Type 0
  Sames a b = AreAlike w.hold w.grace cut.placed cut.excluded a b

  not_too_old : (now moment : ℕ) → now ≤ moment → (x : Option ℕ) → IsTooOld w.hold now x → InTime w x moment → ⊥
  not_too_old now moment le None o t = t
  not_too_old now moment le (Some came) o t = absurd (omega (arith, le, o, t))

  -- an arrival that is in time is the same in both
  in_time : (now moment : ℕ) → now ≤ moment → (x y : Option ℕ) → AreAlikeTimes w.hold now x y → InTime w x moment → x ≡ y
  in_time now moment le x y (inl e) t = e
  in_time now moment le x y (inr h) t = absurd (not_too_old now moment le x h.0 t)

  may_too : (a b : State) (moment : ℕ) → Sames a b → a.now ≤ moment → (m : Move) → MayName cut m → MayMove w a moment m → MayMove w b moment m
  may_too a b moment k le (In s) n h = tt
  may_too a b moment k le (Act c s t) n h = (
    subst (λ (x : Option ℕ). InTime w x moment) (in_time a.now moment le (a.waiting s) (b.waiting s) (k.waiting s n.0) h.0) h.0,
    sym (k.sent t n.1 n.2) ∙ h.1,
    ignore_past_grace.may c s t moment (a.table c) (b.table c) (entry_later w.grace a.now moment le (a.table c) (b.table c) (k.table c)) h.2,
  )
  may_too a b moment k le (Out t) n h = subst (λ (x : Option ℕ). InTime w x moment) (k.owed t n) h

  free_too : (a b : State) (moment : ℕ) → Sames a b → a.now ≤ moment → (c : Pair) (ch : Change) → IsFree w a moment c ch → IsFree w b moment c ch
  free_too a b moment k le c Same f = tt
  free_too a b moment k le c (Makes made) f = λ other ne h. f other ne (held_alike w.grace moment made.relayed (a.table other) (b.table other) (entry_later w.grace a.now moment le (a.table other) (b.table other) (k.table other)) h)
  free_too a b moment k le c (Renews until) f = tt
  free_too a b moment k le c (Grants ips until) f = tt
  free_too a b moment k le c (Binds number peer until permitted) f = tt
  free_too a b moment k le c Removes f = tt

  hands_too : (a b : State) (moment : ℕ) → Sames a b → a.now ≤ moment → (m : Move) → HandsOutFree w a moment m → HandsOutFree w b moment m
  hands_too a b moment k le (In s) f = tt
  hands_too a b moment k le (Act c s t) f =
      let x : Option Allocation = a.table c in
      let y : Option Allocation = b.table c in
      subst (λ (ch : Change). IsFree w b moment c ch) (ignore_past_grace.change c s t moment x y (entry_later w.grace a.now moment le x y (k.table c))) (free_too a b moment k le c (w.change c s t moment x) f)
  hands_too a b moment k le (Out t) f = tt

  pub allowed_too : (a b : State) (e : Step) → Sames a b → MayName cut e.move → Allowed w a e → Allowed w b e
  allowed_too a b e k n h = record {
    in_order = subst (λ (m : ℕ). m ≤ e.moment) k.now h.in_order;
    may = may_too a b e.moment k h.in_order e.move n h.may;
    free = hands_too a b e.moment k h.in_order e.move h.free;
  }

  after_too : (a b : State) (moment : ℕ) → Sames a b → a.now ≤ moment → (m : Move) → MayName cut m → MayMove w a moment m →
      Sames (after w a (record { moment = moment; move = m })) (after w b (record { moment = moment; move = m }))
  after_too a b moment k le (In s) n h = record {
    now = refl;
    table = λ c. entry_later w.grace a.now moment le (a.table c) (b.table c) (k.table c);
    waiting = λ q i. elim (same_sight q s) as (λ v. AreAlikeTimes w.hold moment (cond v (Some moment) (a.waiting q)) (cond v (Some moment) (b.waiting q))) [
      | true ↦ inl refl
      | false ↦ times_later w.hold a.now moment le (a.waiting q) (b.waiting q) (k.waiting q i)
    ];
    owed = k.owed;
    sent = k.sent;
  }
  after_too a b moment k le (Act c s t) n h =
      let x : Option Allocation = a.table c in
      let y : Option Allocation = b.table c in
      let f : AreAlikeEntries w.grace moment x y = entry_later w.grace a.now moment le x y (k.table c) in
      let g : AreAlikeEntries w.grace moment (acted w moment (Act c s t) x) (acted w moment (Act c s t) y) =
      subst (λ (ch : Change). AreAlikeEntries w.grace moment (acted w moment (Act c s t) x) (applied ch y)) (ignore_past_grace.change c s t moment x y f) (ignore_past_grace.after c s t moment x y f h.2) in
      let came : a.waiting s ≡ b.waiting s = in_time a.now moment le (a.waiting s) (b.waiting s) (k.waiting s n.0) h.0 in
      record {
        now = refl;
        table = λ d. elim (same_client d c) as (λ v. AreAlikeEntries w.grace moment (cond v (acted w moment (Act c s t) x) (a.table d)) (cond v (acted w moment (Act c s t) y) (b.table d))) [
          | true ↦ g
          | false ↦ entry_later w.grace a.now moment le (a.table d) (b.table d) (k.table d)
        ];
        waiting = λ q i. elim (same_sight q s) as (λ v. AreAlikeTimes w.hold moment (cond v None (a.waiting q)) (cond v None (b.waiting q))) [
          | true ↦ inl refl
          | false ↦ times_later w.hold a.now moment le (a.waiting q) (b.waiting q) (k.waiting q i)
        ];
        owed = λ q i. ap (λ y. cond (same_sight q t) y (a.owed q)) came ∙ ap (λ y. cond (same_sight q t) (b.waiting s) y) (k.owed q i);
        sent = λ q i p. ap (λ y. cond (same_sight q t) true y) (k.sent q i p);
      }
  after_too a b moment k le (Out t) n h = record {
    now = refl;
    table = λ c. entry_later w.grace a.now moment le (a.table c) (b.table c) (k.table c);
    waiting = λ q i. times_later w.hold a.now moment le (a.waiting q) (b.waiting q) (k.waiting q i);
    owed = λ q i. ap (λ y. cond (same_sight q t) None y) (k.owed q i);
    sent = k.sent;
  }

  -- a run from one is a run from the other, and leads to a state that is alike
  pub run_too : (es : List Step) (a b : State) → Sames a b → AllByRecursion (λ (e : Step). MayName cut e.move) es → RunFrom w a es →
      RunFrom w b es × Sames (fold (after w) a es) (fold (after w) b es)
  run_too [] a b k n r = (tt, k)
  run_too (e ∷ es) a b k n r =
      let rest = run_too es (after w a e) (after w b e) (after_too a b e.moment k r.0.in_order e.move n.0 r.0.may) n.1 r.1 in
      ((allowed_too a b e k n.0 r.0, rest.0), rest.1)
