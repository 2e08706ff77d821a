-- A segment whose names count from a base is a segment with the names among all sightings.
use Rattle.std.proofs.Common.{◌≡◌, ◌≤◌, ◌<◌, ◌+◌, ◌-◌, inl, inr, ℕ, Bool, true, false, ◌&&◌, cond, Option, Some, None, List, [], ◌∷◌, refl, sym, ◌∙◌, ap, subst, arith}
use Rattle.std.specs.Prelude.{is_some, not, nat_lt, IsSomeAnd}
use Rattle.std.specs.List.{fold, AllByRecursion}
use Rattle.std.proofs.lemmas.Bool.{true≢false, cond-true, cond-false, ltb-true, ltb-false, lt-ltb, le-ltb, cases_lt}
use Rattle.audit_model.specs.declared.pair.Pair.{Pair}
use Rattle.audit_model.specs.declared.policy.Policy.{Policy}
use Rattle.audit_model.specs.declared.sighting.SightId.{SightId}
use Rattle.audit_model.specs.declared.sighting.Sighting.{Sighting}
use Rattle.audit_model.specs.declared.sighting.Side.{Side}
use Rattle.audit_model.specs.declared.sighting.Side.TheVariants.{Arrives, Leaves}
use Rattle.audit_model.specs.Sames.{same_sight, same_client}
use Rattle.audit_model.proofs.Sames.{sight_true, sight_same, sight_apart}
use Rattle.audit_rules.specs.Allocation.{Allocation, Change, applied}
use Rattle.audit_rules.specs.Keys.{KeyFor}
use Rattle.audit_server.specs.Captured.{change_between, MayBetween, rules_of}
use Rattle.audit_server.specs.Placing.{places, placed, times_placed, Follow, KeepOrder}
use Rattle.audit_server.specs.Rules.{Rules}
use Rattle.audit_server.specs.Run.{InTime, MayMove, IsFree, HandsOutFree, RunFrom}
use Rattle.audit_server.specs.State.{State, after, put}
use Rattle.audit_server.specs.Step.{Step, Move, In, Act, Out}
use Rattle.audit_server.proofs.Sorting.{count_cons}
use Rattle.audit_segments.specs.Alike.{AreAlikeTimes, AreAlike, is_placed}
use Rattle.audit_segments.specs.Cut.{Cut, Extends, MayName}
use Rattle.audit_segments.specs.Renamed.{renamed_if}
use Rattle.audit_segments.specs.Shifted.{shifted, is_below, unshifted, from_base, shifted_view, shifted_move, shifted_step, shifted_steps, shifted_state, shifted_cut}
use Rattle.audit_segments.specs.Segment.{View, IsSeenIn, MayBePlacedIn, due, IsSegment}
use Rattle.audit_segments.proofs.Due.{one_where}
use Rattle.audit_segments.proofs.Renaming.{may_renamed, between_renamed}

module _ (base : ℕ → ℕ) where
  -- ---- names

  shifted_not_below : (s : SightId) → is_below base (shifted base s) ≡ false
  shifted_not_below s = le-ltb (base s.iface + s.index) (base s.iface) (omega arith)

  unshifted_shifted : (s : SightId) → unshifted base (shifted base s) ≡ s
  unshifted_shifted s = let e : (base s.iface + s.index) - base s.iface ≡ s.index = omega arith in λ n. record { iface = s.iface; index = e n }

  shifted_unshifted : (s : SightId) → is_below base s ≡ false → shifted base (unshifted base s) ≡ s
  shifted_unshifted s h =
      let le : base s.iface ≤ s.index = ltb-false s.index (base s.iface) h in
      let e : base s.iface + (s.index - base s.iface) ≡ s.index = omega (arith, le) in
      λ n. record { iface = s.iface; index = e n }

  -- a name is below the base, or is one that was shifted
  by_cases : (P : SightId → Type 0) → ((s : SightId) → is_below base s ≡ true → P s) → ((s : SightId) → P (shifted base s)) → (s : SightId) → P s
  by_cases P f g s = elim (is_below base s) as (λ b. is_below base s ≡ b → P s) [
    | true ↦ λ q. f s q
    | false ↦ λ q. subst P (shifted_unshifted s q) (g (unshifted base s))
  ] refl

  at_shifted : {A : Type 0} (below : A) (f : SightId → A) (s : SightId) → from_base base below f (shifted base s) ≡ f s
  at_shifted below f s = cond-false (is_below base (shifted base s)) below (f (unshifted base (shifted base s))) (shifted_not_below s) ∙ ap f (unshifted_shifted s)

  at_below : {A : Type 0} (below : A) (f : SightId → A) (s : SightId) → is_below base s ≡ true → from_base base below f s ≡ below
  at_below below f s h = cond-true (is_below base s) below (f (unshifted base s)) h

  one_shifted : (q s : SightId) → shifted base q ≡ shifted base s → q ≡ s
  one_shifted q s h = sym (unshifted_shifted q) ∙ ap (unshifted base) h ∙ unshifted_shifted s

  same_shifted : (q s : SightId) → same_sight (shifted base q) (shifted base s) ≡ same_sight q s
  same_shifted q s = elim (same_sight q s) as (λ b. same_sight q s ≡ b → same_sight (shifted base q) (shifted base s) ≡ b) [
    | true ↦ λ h. sight_same (shifted base q) (shifted base s) (ap (shifted base) (sight_true q s h))
    | false ↦ λ h. sight_apart (shifted base q) (shifted base s) (λ e. true≢false (sym (sight_same q s (one_shifted q s e)) ∙ h))
  ] refl

  below_apart : (q s : SightId) → is_below base q ≡ true → same_sight q (shifted base s) ≡ false
  below_apart q s h = sight_apart q (shifted base s) (λ e. true≢false (sym h ∙ ap (is_below base) e ∙ shifted_not_below s))

  -- a function changed at one name
  put_shifted : {A : Type 0} (below : A) (f : SightId → A) (k : SightId) (x : A) (q : SightId) → put same_sight (from_base base below f) (shifted base k) x q ≡ from_base base below (put same_sight f k x) q
  put_shifted below f k x q = by_cases (λ q. put same_sight (from_base base below f) (shifted base k) x q ≡ from_base base below (put same_sight f k x) q)
      (λ q h. cond-false (same_sight q (shifted base k)) x (from_base base below f q) (below_apart q k h) ∙ at_below below f q h ∙ sym (at_below below (put same_sight f k x) q h))
      (λ q. ap (λ b. cond b x (from_base base below f (shifted base q))) (same_shifted q k) ∙ ap (λ y. cond (same_sight q k) x y) (at_shifted below f q) ∙ sym (at_shifted below (put same_sight f k x) q))
      q

  module _ (policy : Policy) (key_for : KeyFor) (view : View) where
    abbrev W : Rules
    W = rules_of policy key_for view

    abbrev V : Rules
    V = rules_of policy key_for (shifted_view base view)

    view_shifted : (s : SightId) → shifted_view base view (shifted base s) ≡ renamed_if (shifted base s) (view s)
    view_shifted s = ap (renamed_if (shifted base s)) (at_shifted None view s)

    view_below : (s : SightId) → is_below base s ≡ true → shifted_view base view s ≡ None
    view_below s h = ap (renamed_if s) (at_below None view s h)

    change_shifted : (c : Pair) (s t : SightId) (moment : ℕ) (x : Option Allocation) → V.change c (shifted base s) (shifted base t) moment x ≡ W.change c s t moment x
    change_shifted c s t moment x =
        ap (λ o. change_between policy key_for c moment x o (shifted_view base view (shifted base t))) (view_shifted s)
        ∙ ap (λ o. change_between policy key_for c moment x (renamed_if (shifted base s) (view s)) o) (view_shifted t)
        ∙ sym (between_renamed policy key_for c moment x (shifted base s) (shifted base t) (view s) (view t))

    may_shifted : (c : Pair) (s t : SightId) (moment : ℕ) (x : Option Allocation) → W.MayAnswer c s t moment x → V.MayAnswer c (shifted base s) (shifted base t) moment x
    may_shifted c s t moment x m =
        subst (λ (o : Option Sighting). MayBetween policy key_for c moment x o (shifted_view base view (shifted base t))) (sym (view_shifted s))
        (subst (λ (o : Option Sighting). MayBetween policy key_for c moment x (renamed_if (shifted base s) (view s)) o) (sym (view_shifted t))
        (may_renamed policy key_for c moment x (shifted base s) (shifted base t) (view s) (view t) m))

    -- ---- a step

    after_shifted : (st : State) (moment : ℕ) (m : Move) → after V (shifted_state base st) (record { moment = moment; move = shifted_move base m }) ≡ shifted_state base (after W st (record { moment = moment; move = m }))
    after_shifted st moment (In s) = λ i. record {
      table = st.table;
      waiting = λ q. put_shifted None st.waiting s (Some moment) q i;
      owed = from_base base None st.owed;
      sent = from_base base false st.sent;
      now = moment;
    }
    after_shifted st moment (Act c s t) =
        let ch = change_shifted c s t moment (st.table c) in
        let came = at_shifted None st.waiting s in
        λ i. record {
          table = put same_client st.table c (applied (ch i) (st.table c));
          waiting = λ q. put_shifted None st.waiting s None q i;
          owed = λ q. (ap (λ x. put same_sight (from_base base None st.owed) (shifted base t) x q) came ∙ put_shifted None st.owed t (st.waiting s) q) i;
          sent = λ q. put_shifted false st.sent t true q i;
          now = moment;
        }
    after_shifted st moment (Out t) = λ i. record {
      table = st.table;
      waiting = from_base base None st.waiting;
      owed = λ q. put_shifted None st.owed t None q i;
      sent = from_base base false st.sent;
      now = moment;
    }

    may_too : (st : State) (moment : ℕ) (m : Move) → MayMove W st moment m → MayMove V (shifted_state base st) moment (shifted_move base m)
    may_too st moment (In s) h = tt
    may_too st moment (Act c s t) h = (
      subst (λ (o : Option ℕ). InTime V o moment) (sym (at_shifted None st.waiting s)) h.0,
      at_shifted false st.sent t ∙ h.1,
      may_shifted c s t moment (st.table c) h.2,
    )
    may_too st moment (Out t) h = subst (λ (o : Option ℕ). InTime V o moment) (sym (at_shifted None st.owed t)) h

    free_too : (st : State) (moment : ℕ) (m : Move) → HandsOutFree W st moment m → HandsOutFree V (shifted_state base st) moment (shifted_move base m)
    free_too st moment (In s) f = tt
    free_too st moment (Act c s t) f = subst (λ (ch : Change). IsFree V (shifted_state base st) moment c ch) (sym (change_shifted c s t moment (st.table c))) (free (W.change c s t moment (st.table c)) f) where
      free : (ch : Change) → IsFree W st moment c ch → IsFree V (shifted_state base st) moment c ch
      free ch k = k
    free_too st moment (Out t) f = tt

    run_shifted : (es : List Step) (st : State) → RunFrom W st es → RunFrom V (shifted_state base st) (shifted_steps base es)
    run_shifted [] st r = tt
    run_shifted (e ∷ es) st r = (
      record { in_order = r.0.in_order; may = may_too st e.moment e.move r.0.may; free = free_too st e.moment e.move r.0.free },
      subst (λ (x : State). RunFrom V x (shifted_steps base es)) (sym (after_shifted st e.moment e.move)) (run_shifted es (after W st e) r.1),
    )

    fold_shifted : (es : List Step) (st : State) → fold (after V) (shifted_state base st) (shifted_steps base es) ≡ shifted_state base (fold (after W) st es)
    fold_shifted [] st = refl
    fold_shifted (e ∷ es) st = ap (λ (x : State). fold (after V) x (shifted_steps base es)) (after_shifted st e.moment e.move) ∙ fold_shifted es (after W st e)

    -- ---- what is placed

    places_shifted : (s : SightId) (m : Move) → places (shifted base s) (shifted_move base m) ≡ places s m
    places_shifted s (In x) = same_shifted x s
    places_shifted s (Act c x y) = refl
    places_shifted s (Out x) = same_shifted x s

    times_shifted : (s : SightId) (es : List Step) → times_placed (shifted base s) (shifted_steps base es) ≡ times_placed s es
    times_shifted s [] = refl
    times_shifted s (e ∷ es) =
        let one : cond {A = ℕ} (places (shifted base s) (shifted_move base e.move)) 1 0 ≡ cond {A = ℕ} (places s e.move) 1 0 = ap (λ (b : Bool). cond {A = ℕ} b 1 0) (places_shifted s e.move) in
        omega (arith, one, count_cons (λ (d : Step). places (shifted base s) d.move) (shifted_step base e) (shifted_steps base es), count_cons (λ (d : Step). places s d.move) e es, times_shifted s es)

    apart_below : (x s : SightId) → is_below base s ≡ true → same_sight (shifted base x) s ≡ false
    apart_below x s h = sight_apart (shifted base x) s (λ e. true≢false (sym h ∙ ap (is_below base) (sym e) ∙ shifted_not_below x))

    places_below : (s : SightId) → is_below base s ≡ true → (m : Move) → places s (shifted_move base m) ≡ false
    places_below s h (In x) = apart_below x s h
    places_below s h (Act c x y) = refl
    places_below s h (Out x) = apart_below x s h

    times_below : (s : SightId) → is_below base s ≡ true → (es : List Step) → times_placed s (shifted_steps base es) ≡ 0
    times_below s h [] = refl
    times_below s h (e ∷ es) =
        let none : cond {A = ℕ} (places s (shifted_move base e.move)) 1 0 ≡ 0 = ap (λ (b : Bool). cond {A = ℕ} b 1 0) (places_below s h e.move) in
        omega (arith, none, count_cons (λ (d : Step). places s d.move) (shifted_step base e) (shifted_steps base es), times_below s h es)

    seen_shifted : (side : Side) (s : SightId) (moment : ℕ) → IsSeenIn view side s moment → IsSeenIn (shifted_view base view) side (shifted base s) moment
    seen_shifted side s moment h = subst (λ (o : Option Sighting). IsSomeAnd o (λ x. (x.side ≡ side) × (x.lo ≤ moment) × (moment ≤ x.hi))) (sym (view_shifted s)) (by_name (view s) h) where
      by_name : (o : Option Sighting) → IsSomeAnd o (λ x. (x.side ≡ side) × (x.lo ≤ moment) × (moment ≤ x.hi)) → IsSomeAnd (renamed_if (shifted base s) o) (λ x. (x.side ≡ side) × (x.lo ≤ moment) × (moment ≤ x.hi))
      by_name None k = absurd k
      by_name (Some x) k = k

    placed_shifted : (moment : ℕ) (m : Move) → MayBePlacedIn view moment m → MayBePlacedIn (shifted_view base view) moment (shifted_move base m)
    placed_shifted moment (In s) h = seen_shifted Arrives s moment h
    placed_shifted moment (Act c s t) h = tt
    placed_shifted moment (Out t) h = seen_shifted Leaves t moment h

    all_seen : (es : List Step) → AllByRecursion (λ (e : Step). MayBePlacedIn view e.moment e.move) es → AllByRecursion (λ (e : Step). MayBePlacedIn (shifted_view base view) e.moment e.move) (shifted_steps base es)
    all_seen [] h = tt
    all_seen (e ∷ es) h = (placed_shifted e.moment e.move h.0, all_seen es h.1)

    -- ---- the order

    placed_unshifted : (m : Move) (s : SightId) → placed (shifted_move base m) ≡ Some s → (x : SightId) × (placed m ≡ Some x) × (shifted base x ≡ s)
    placed_unshifted (In x) s h = (x, refl, let e : shifted base x ≡ s = cc in e)
    placed_unshifted (Act c x y) s h = absurd (let k : None ≡ Some s = h in cc)
    placed_unshifted (Out x) s h = (x, refl, let e : shifted base x ≡ s = cc in e)

    follow_shifted : (a b : Move) → Follow a b → Follow (shifted_move base a) (shifted_move base b)
    follow_shifted a b f s t ps pt i =
        let x = placed_unshifted a s ps in
        let y = placed_unshifted b t pt in
        let xi : x.0.iface ≡ s.iface = ap (λ (z : SightId). z.iface) x.2 in
        let yi : y.0.iface ≡ t.iface = ap (λ (z : SightId). z.iface) y.2 in
        let same : x.0.iface ≡ y.0.iface = xi ∙ i ∙ sym yi in
        let lt : x.0.index < y.0.index = f x.0 y.0 x.1 y.1 same in
        let xs : base x.0.iface + x.0.index ≡ s.index = ap (λ (z : SightId). z.index) x.2 in
        let ys : base y.0.iface + y.0.index ≡ t.index = ap (λ (z : SightId). z.index) y.2 in
        let bs : base x.0.iface ≡ base y.0.iface = ap base same in
        omega (arith, lt, xs, ys, bs)

    all_follow : (m : Move) (es : List Step) → AllByRecursion (λ (d : Step). Follow m d.move) es → AllByRecursion (λ (d : Step). Follow (shifted_move base m) d.move) (shifted_steps base es)
    all_follow m [] h = tt
    all_follow m (e ∷ es) h = (follow_shifted m e.move h.0, all_follow m es h.1)

    order_shifted : (es : List Step) → KeepOrder es → KeepOrder (shifted_steps base es)
    order_shifted [] k = tt
    order_shifted (e ∷ es) k = (all_follow e.move es k.0, order_shifted es k.1)

    -- ---- cuts

    module _ (earlier : SightId → Bool) where
      excluded_shifted : (cut : Cut) (s : SightId) → (shifted_cut base earlier cut).excluded (shifted base s) ≡ cut.excluded s
      excluded_shifted cut s = cond-false (is_below base (shifted base s)) (earlier (shifted base s)) (cut.excluded (unshifted base (shifted base s))) (shifted_not_below s) ∙ ap cut.excluded (unshifted_shifted s)

      excluded_below : (cut : Cut) (s : SightId) → is_below base s ≡ true → (shifted_cut base earlier cut).excluded s ≡ earlier s
      excluded_below cut s h = cond-true (is_below base s) (earlier s) (cut.excluded (unshifted base s)) h

      lt_shifted : (a i n : ℕ) → nat_lt (a + i) (a + n) ≡ nat_lt i n
      lt_shifted a i n = elim (cases_lt i n) [
        | inl lt ↦ lt-ltb (a + i) (a + n) (omega (arith, lt)) ∙ sym (lt-ltb i n lt)
        | inr le ↦ le-ltb (a + i) (a + n) (omega (arith, le)) ∙ sym (le-ltb i n le)
      ]

      is_placed_shifted : (cut : Cut) (s : SightId) → is_placed (shifted_cut base earlier cut).placed (shifted base s) ≡ is_placed cut.placed s
      is_placed_shifted cut s = lt_shifted (base s.iface) s.index (cut.placed s.iface)

      placed_below : (cut : Cut) (s : SightId) → is_below base s ≡ true → is_placed (shifted_cut base earlier cut).placed s ≡ true
      placed_below cut s h = let lt : s.index < base s.iface = ltb-true s.index (base s.iface) h in lt-ltb s.index (base s.iface + cut.placed s.iface) (omega (arith, lt))

      names_shifted : (cut : Cut) (m : Move) → MayName cut m → MayName (shifted_cut base earlier cut) (shifted_move base m)
      names_shifted cut (In s) n = excluded_shifted cut s ∙ n
      names_shifted cut (Act c s t) n = (excluded_shifted cut s ∙ n.0, excluded_shifted cut t ∙ n.1, is_placed_shifted cut t ∙ n.2)
      names_shifted cut (Out t) n = excluded_shifted cut t ∙ n

      all_names : (cut : Cut) (es : List Step) → AllByRecursion (λ (e : Step). MayName cut e.move) es → AllByRecursion (λ (e : Step). MayName (shifted_cut base earlier cut) e.move) (shifted_steps base es)
      all_names cut [] h = tt
      all_names cut (e ∷ es) h = (names_shifted cut e.move h.0, all_names cut es h.1)

      extends_shifted : (old new : Cut) → Extends old new → Extends (shifted_cut base earlier old) (shifted_cut base earlier new)
      extends_shifted old new p = record {
        placed = λ iface. omega (arith, p.placed iface);
        excluded = by_cases (λ s. (shifted_cut base earlier old).excluded s ≡ true → (shifted_cut base earlier new).excluded s ≡ true)
            (λ s h e. excluded_below new s h ∙ sym (excluded_below old s h) ∙ e)
            (λ s e. excluded_shifted new s ∙ p.excluded s (sym (excluded_shifted old s) ∙ e));
        settled = by_cases (λ s. is_placed (shifted_cut base earlier old).placed s ≡ true → (shifted_cut base earlier new).excluded s ≡ (shifted_cut base earlier old).excluded s)
            (λ s h e. excluded_below new s h ∙ sym (excluded_below old s h))
            (λ s e. excluded_shifted new s ∙ p.settled s (sym (is_placed_shifted old s) ∙ e) ∙ sym (excluded_shifted old s));
      }

      alike_shifted : (hold grace : ℕ) (cut : Cut) (a b : State) → AreAlike hold grace cut.placed cut.excluded a b → AreAlike hold grace (shifted_cut base earlier cut).placed (shifted_cut base earlier cut).excluded (shifted_state base a) (shifted_state base b)
      alike_shifted hold grace cut a b k = record {
        now = k.now;
        table = k.table;
        waiting = by_cases (λ s. (shifted_cut base earlier cut).excluded s ≡ false → AreAlikeTimes hold a.now ((shifted_state base a).waiting s) ((shifted_state base b).waiting s))
            (λ s h e. inl (at_below None a.waiting s h ∙ sym (at_below None b.waiting s h)))
            (λ s e. subst (λ (x : Option ℕ). AreAlikeTimes hold a.now x ((shifted_state base b).waiting (shifted base s))) (sym (at_shifted None a.waiting s))
            (subst (λ (y : Option ℕ). AreAlikeTimes hold a.now (a.waiting s) y) (sym (at_shifted None b.waiting s)) (k.waiting s (sym (excluded_shifted cut s) ∙ e))));
        owed = by_cases (λ s. (shifted_cut base earlier cut).excluded s ≡ false → (shifted_state base a).owed s ≡ (shifted_state base b).owed s)
            (λ s h e. at_below None a.owed s h ∙ sym (at_below None b.owed s h))
            (λ s e. at_shifted None a.owed s ∙ k.owed s (sym (excluded_shifted cut s) ∙ e) ∙ sym (at_shifted None b.owed s));
        sent = by_cases (λ s. (shifted_cut base earlier cut).excluded s ≡ false → is_placed (shifted_cut base earlier cut).placed s ≡ false → (shifted_state base a).sent s ≡ (shifted_state base b).sent s)
            (λ s h e p. at_below false a.sent s h ∙ sym (at_below false b.sent s h))
            (λ s e p. at_shifted false a.sent s ∙ k.sent s (sym (excluded_shifted cut s) ∙ e) (sym (is_placed_shifted cut s) ∙ p) ∙ sym (at_shifted false b.sent s));
      }

      some_shifted : (s : SightId) → is_some (shifted_view base view (shifted base s)) ≡ is_some (view s)
      some_shifted s = ap is_some (view_shifted s) ∙ by_name (view s) where
        by_name : (o : Option Sighting) → is_some (renamed_if (shifted base s) o) ≡ is_some o
        by_name None = refl
        by_name (Some x) = refl

      due_shifted : (old new : Cut) (s : SightId) → due (shifted_view base view) (shifted_cut base earlier old) (shifted_cut base earlier new) (shifted base s) ≡ due view old new s
      due_shifted old new s =
          ap (λ v. one_where ((v && not ((shifted_cut base earlier new).excluded (shifted base s))) && (not (is_placed (shifted_cut base earlier old).placed (shifted base s)) && is_placed (shifted_cut base earlier new).placed (shifted base s)))) (some_shifted s)
          ∙ ap (λ x. one_where ((is_some (view s) && not x) && (not (is_placed (shifted_cut base earlier old).placed (shifted base s)) && is_placed (shifted_cut base earlier new).placed (shifted base s)))) (excluded_shifted new s)
          ∙ ap (λ a. one_where ((is_some (view s) && not (new.excluded s)) && (not a && is_placed (shifted_cut base earlier new).placed (shifted base s)))) (is_placed_shifted old s)
          ∙ ap (λ b. one_where ((is_some (view s) && not (new.excluded s)) && (not (is_placed old.placed s) && b))) (is_placed_shifted new s)

      due_below : (old new : Cut) (s : SightId) → is_below base s ≡ true → due (shifted_view base view) (shifted_cut base earlier old) (shifted_cut base earlier new) s ≡ 0
      due_below old new s h = ap (λ (o : Option Sighting). one_where ((is_some o && not ((shifted_cut base earlier new).excluded s)) && (not (is_placed (shifted_cut base earlier old).placed s) && is_placed (shifted_cut base earlier new).placed s))) (view_below s h)

      pub shifted_segment : (old new : Cut) (steps : List Step) → IsSegment policy key_for view old steps new →
          IsSegment policy key_for (shifted_view base view) (shifted_cut base earlier old) (shifted_steps base steps) (shifted_cut base earlier new)
      shifted_segment old new steps k = record {
        placed = by_cases (λ s. times_placed s (shifted_steps base steps) ≡ due (shifted_view base view) (shifted_cut base earlier old) (shifted_cut base earlier new) s)
            (λ s h. times_below s h steps ∙ sym (due_below old new s h))
            (λ s. times_shifted s steps ∙ k.placed s ∙ sym (due_shifted old new s));
        seen = all_seen steps k.seen;
        order = order_shifted steps k.order;
        names = all_names old steps k.names;
        runs = run_shifted steps old.state k.runs;
        leads = subst (λ (st : State). AreAlike policy.hold policy.grace (shifted_cut base earlier new).placed (shifted_cut base earlier new).excluded st (shifted_state base new.state)) (sym (fold_shifted steps old.state))
            (alike_shifted policy.hold policy.grace new (fold (after W) old.state steps) new.state k.leads);
        extends = extends_shifted old new k.extends;
      }
