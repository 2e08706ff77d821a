-- One move is a segment.
use Rattle.std.proofs.Common.{◌≡◌, ◌≢◌, ◌≤◌, ◌+◌, inl, inr, ℕ, Bool, true, false, ◌==◌, ◌&&◌, cond, Option, Some, None, [], ◌∷◌, refl, sym, ◌∙◌, ap, subst, arith}
use Rattle.std.specs.Prelude.{is_some, not, nat_lt, IsSomeAnd}
use Rattle.std.proofs.lemmas.Bool.{true≢false, eqb-true, eqb-false, eq-eqb, ne_eqb, cond-true, cond-false, cases_lt}
use Rattle.audit_model.specs.declared.pair.Pair.{Pair}
use Rattle.audit_model.specs.declared.policy.Policy.{Policy}
use Rattle.audit_model.specs.declared.sighting.SightId.{SightId}
use Rattle.audit_model.specs.declared.sighting.Sighting.{Sighting}
use Rattle.audit_model.specs.declared.sighting.Side.{Side}
use Rattle.audit_model.specs.declared.sighting.Side.TheVariants.{Arrives, Leaves}
use Rattle.audit_model.specs.Sames.{same_sight, same_client}
use Rattle.audit_model.proofs.Sames.{sight_true, sight_false}
use Rattle.audit_rules.specs.Allocation.{Allocation}
use Rattle.audit_rules.specs.Keys.{KeyFor}
use Rattle.audit_server.specs.Captured.{rules_of}
use Rattle.audit_server.specs.Placing.{places, times_placed}
use Rattle.audit_server.specs.Rules.{Rules}
use Rattle.audit_server.specs.Run.{InTime, IsFree}
use Rattle.audit_server.specs.State.{acted, put}
use Rattle.audit_server.specs.Step.{Step, Move, In, Act, Out}
use Rattle.audit_server.proofs.Sorting.{count_cons}
use Rattle.audit_segments.specs.Alike.{is_placed}
use Rattle.audit_segments.specs.Cut.{Cut, Extends}
use Rattle.audit_segments.specs.PastGrace.{AreAlikeEntries}
use Rattle.audit_segments.specs.Segment.{View, IsSeenIn, due, IsSegment}
use Rattle.audit_segments.proofs.Due.{one_where}
use Rattle.audit_segments.proofs.Entries.{entry_refl}
use Rattle.audit_segments.proofs.States.{below_placed, from_unplaced}

abbrev pub step_at : ℕ → Move → Step
step_at moment move = record { moment = moment; move = move }

-- the next sighting of its interface is placed, and nothing else
pub record PlacesNext (old new : Cut) (s : SightId) : Type 0 where
  pub next : s.index ≡ old.placed s.iface
  pub placed : (iface : ℕ) → new.placed iface ≡ cond (iface == s.iface) (s.index + 1) (old.placed iface)
  pub excluded : (q : SightId) → new.excluded q ≡ old.excluded q

module _ (old new : Cut) (s : SightId) (n : PlacesNext old new s) where
  here : new.placed s.iface ≡ s.index + 1
  here = n.placed s.iface ∙ cond-true (s.iface == s.iface) (s.index + 1) (old.placed s.iface) (eq-eqb s.iface s.iface refl)

  elsewhere : (iface : ℕ) → iface ≢ s.iface → new.placed iface ≡ old.placed iface
  elsewhere iface ne = n.placed iface ∙ cond-false (iface == s.iface) (s.index + 1) (old.placed iface) (ne_eqb iface s.iface ne)

  not_yet : is_placed old.placed s ≡ false
  not_yet = from_unplaced old.placed s (let k = n.next in omega (arith, k))

  pub now_placed : is_placed new.placed s ≡ true
  now_placed = below_placed new.placed s (let k = here in omega (arith, k))

  of_iface : (q : SightId) → q ≢ s → q.iface ≡ s.iface → is_placed new.placed q ≡ is_placed old.placed q
  of_iface q ne i =
      let k : new.placed q.iface ≡ s.index + 1 = ap new.placed i ∙ here in
      let l : old.placed q.iface ≡ s.index = ap old.placed i ∙ sym n.next in
      elim (cases_lt q.index s.index) [
        | inl lt ↦ below_placed new.placed q (omega (arith, k, lt)) ∙ sym (below_placed old.placed q (omega (arith, l, lt)))
        | inr le ↦
            let apart : q.index ≢ s.index = λ e. ne (λ m. record { iface = i m; index = e m }) in
            from_unplaced new.placed q (omega (arith, k, le, apart)) ∙ sym (from_unplaced old.placed q (omega (arith, l, le)))
      ]

  others : (q : SightId) → q ≢ s → is_placed new.placed q ≡ is_placed old.placed q
  others q ne = elim (q.iface == s.iface) as (λ b. (q.iface == s.iface) ≡ b → is_placed new.placed q ≡ is_placed old.placed q) [
    | true ↦ λ e. of_iface q ne (eqb-true q.iface s.iface e)
    | false ↦ λ e. ap (nat_lt q.index) (elsewhere q.iface (eqb-false q.iface s.iface e))
  ] refl

  grows : (iface : ℕ) → old.placed iface ≤ new.placed iface
  grows iface = elim (iface == s.iface) as (λ b. (iface == s.iface) ≡ b → old.placed iface ≤ new.placed iface) [
    | true ↦ λ e.
        let i : iface ≡ s.iface = eqb-true iface s.iface e in
        let k : new.placed iface ≡ s.index + 1 = ap new.placed i ∙ here in
        let l : old.placed iface ≡ s.index = ap old.placed i ∙ sym n.next in
        omega (arith, k, l)
    | false ↦ λ e. let k = elsewhere iface (eqb-false iface s.iface e) in omega (arith, k)
  ] refl

  pub next_proceeds : Extends old new
  next_proceeds = record { placed = grows; excluded = λ q e. n.excluded q ∙ e; settled = λ q e. n.excluded q }

  none_both : (v b : Bool) → one_where (v && (not b && b)) ≡ 0
  none_both true true = refl
  none_both true false = refl
  none_both false b = refl

  pub due_next : (view : View) (x : Sighting) → view s ≡ Some x → old.excluded s ≡ false → (q : SightId) → cond {A = ℕ} (same_sight s q) 1 0 ≡ due view old new q
  due_next view x there free_name q = elim (same_sight s q) as (λ b. same_sight s q ≡ b → cond {A = ℕ} b 1 0 ≡ due view old new q) [
    | true ↦ λ e.
        let same : s ≡ q = sight_true s q e in
        subst (λ (z : SightId). 1 ≡ due view old new z) same
        (sym (
        ap (λ (o : Option Sighting). one_where ((is_some o && not (new.excluded s)) && (not (is_placed old.placed s) && is_placed new.placed s))) there
        ∙ ap (λ (a : Bool). one_where ((true && not a) && (not (is_placed old.placed s) && is_placed new.placed s))) (n.excluded s ∙ free_name)
        ∙ ap (λ (a : Bool). one_where ((true && true) && (not a && is_placed new.placed s))) not_yet
        ∙ ap (λ (a : Bool). one_where ((true && true) && (true && a))) now_placed))
    | false ↦ λ e.
        let ne : q ≢ s = λ k. sight_false s q e (sym k) in
        sym (ap (λ (b : Bool). one_where ((is_some (view q) && not (new.excluded q)) && (not (is_placed old.placed q) && b))) (others q ne) ∙ none_both (is_some (view q) && not (new.excluded q)) (is_placed old.placed q))
  ] refl

one_time : (q : SightId) (e : Step) → times_placed q (e ∷ []) ≡ cond {A = ℕ} (places q e.move) 1 0
one_time q e = omega (arith, count_cons (λ (d : Step). places q d.move) e [])

seen_at : (view : View) (side : Side) (s : SightId) (x : Sighting) (moment : ℕ) → view s ≡ Some x → (x.side ≡ side) × (x.lo ≤ moment) × (moment ≤ x.hi) → IsSeenIn view side s moment
seen_at view side s x moment there h = subst (λ (o : Option Sighting). IsSomeAnd o (λ y. (y.side ≡ side) × (y.lo ≤ moment) × (moment ≤ y.hi))) (sym there) h

module _ (policy : Policy) (key_for : KeyFor) (view : View) (old new : Cut) (moment : ℕ) (order : old.state.now ≤ moment) where
  abbrev W : Rules
  W = rules_of policy key_for view

  pub arrival_is_segment : (s : SightId) (x : Sighting) → view s ≡ Some x → (x.side ≡ Arrives) × (x.lo ≤ moment) × (moment ≤ x.hi) → old.excluded s ≡ false → PlacesNext old new s →
      new.state.now ≡ moment → ((c : Pair) → new.state.table c ≡ old.state.table c) → ((q : SightId) → new.state.waiting q ≡ put same_sight old.state.waiting s (Some moment) q) →
      ((q : SightId) → new.state.owed q ≡ old.state.owed q) → ((q : SightId) → new.state.sent q ≡ old.state.sent q) →
      IsSegment policy key_for view old (step_at moment (In s) ∷ []) new
  arrival_is_segment s x there seen free_name next now table waiting owed sent = record {
    placed = λ q. one_time q (step_at moment (In s)) ∙ due_next old new s next view x there free_name q;
    seen = (seen_at view Arrives s x moment there seen, tt);
    order = (tt, tt);
    names = (free_name, tt);
    runs = (record { in_order = order; may = tt; free = tt }, tt);
    leads = record {
      now = sym now;
      table = λ c. subst (λ (o : Option Allocation). AreAlikeEntries policy.grace moment (old.state.table c) o) (sym (table c)) (entry_refl policy.grace moment (old.state.table c));
      waiting = λ q h. inl (sym (waiting q));
      owed = λ q h. sym (owed q);
      sent = λ q h p. sym (sent q);
    };
    extends = next_proceeds old new s next;
  }

  pub departure_is_segment : (t : SightId) (x : Sighting) → view t ≡ Some x → (x.side ≡ Leaves) × (x.lo ≤ moment) × (moment ≤ x.hi) → old.excluded t ≡ false → PlacesNext old new t →
      InTime W (old.state.owed t) moment →
      new.state.now ≡ moment → ((c : Pair) → new.state.table c ≡ old.state.table c) → ((q : SightId) → new.state.waiting q ≡ old.state.waiting q) →
      ((q : SightId) → new.state.owed q ≡ put same_sight old.state.owed t None q) → ((q : SightId) → q ≢ t → new.state.sent q ≡ old.state.sent q) →
      IsSegment policy key_for view old (step_at moment (Out t) ∷ []) new
  departure_is_segment t x there seen free_name next due_now now table waiting owed sent = record {
    placed = λ q. one_time q (step_at moment (Out t)) ∙ due_next old new t next view x there free_name q;
    seen = (seen_at view Leaves t x moment there seen, tt);
    order = (tt, tt);
    names = (free_name, tt);
    runs = (record { in_order = order; may = due_now; free = tt }, tt);
    leads = record {
      now = sym now;
      table = λ c. subst (λ (o : Option Allocation). AreAlikeEntries policy.grace moment (old.state.table c) o) (sym (table c)) (entry_refl policy.grace moment (old.state.table c));
      waiting = λ q h. inl (sym (waiting q));
      owed = λ q h. sym (owed q);
      sent = λ q h p. sym (sent q (λ e. true≢false (sym (ap (is_placed new.placed) e ∙ now_placed old new t next) ∙ p)));
    };
    extends = next_proceeds old new t next;
  }

  pub act_is_segment : (c : Pair) (s t : SightId) → old.excluded s ≡ false → old.excluded t ≡ false → is_placed old.placed t ≡ false → InTime W (old.state.waiting s) moment → old.state.sent t ≡ false →
      W.MayAnswer c s t moment (old.state.table c) → IsFree W old.state moment c (W.change c s t moment (old.state.table c)) →
      ((iface : ℕ) → new.placed iface ≡ old.placed iface) → ((q : SightId) → new.excluded q ≡ old.excluded q) →
      new.state.now ≡ moment → ((d : Pair) → new.state.table d ≡ put same_client old.state.table c (acted W moment (Act c s t) (old.state.table c)) d) →
      ((q : SightId) → new.state.waiting q ≡ put same_sight old.state.waiting s None q) → ((q : SightId) → new.state.owed q ≡ put same_sight old.state.owed t (old.state.waiting s) q) →
      ((q : SightId) → new.state.sent q ≡ put same_sight old.state.sent t true q) →
      IsSegment policy key_for view old (step_at moment (Act c s t) ∷ []) new
  act_is_segment c s t open_one open_other unplaced in_time fresh may free same excluded now table waiting owed sent = record {
    placed = λ q. one_time q (step_at moment (Act c s t)) ∙ sym (none_due q);
    seen = (tt, tt);
    order = (tt, tt);
    names = ((open_one, open_other, unplaced), tt);
    runs = (record { in_order = order; may = (in_time, fresh, may); free = free }, tt);
    leads = record {
      now = sym now;
      table = λ d. subst (λ (o : Option Allocation). AreAlikeEntries policy.grace moment (put same_client old.state.table c (acted W moment (Act c s t) (old.state.table c)) d) o) (sym (table d))
          (entry_refl policy.grace moment (put same_client old.state.table c (acted W moment (Act c s t) (old.state.table c)) d));
      waiting = λ q h. inl (sym (waiting q));
      owed = λ q h. sym (owed q);
      sent = λ q h p. sym (sent q);
    };
    extends = record { placed = λ iface. let k = same iface in omega (arith, k); excluded = λ q e. excluded q ∙ e; settled = λ q e. excluded q };
  } where
    none : (v b : Bool) → one_where (v && (not b && b)) ≡ 0
    none true true = refl
    none true false = refl
    none false b = refl

    none_due : (q : SightId) → due view old new q ≡ 0
    none_due q = ap (λ (n : ℕ). one_where ((is_some (view q) && not (new.excluded q)) && (not (is_placed old.placed q) && nat_lt q.index n))) (same q.iface) ∙ none (is_some (view q) && not (new.excluded q)) (is_placed old.placed q)
