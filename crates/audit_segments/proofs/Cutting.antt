-- The steps between two places of a run that explains the captures are a segment.
use Rattle.std.proofs.Common.{◌≡◌, ◌≤◌, ◌<◌, ◌+◌, ◌-◌, ◌⊎◌, inl, inr, ℕ, Bool, true, false, ◌&&◌, None, List, [], ◌∷◌, ◌++◌, refl, sym, ◌∙◌, ap, subst, arith, append_assoc}
use Rattle.std.specs.Prelude.{is_some, not}
use Rattle.std.specs.List.{fold, AllByRecursion}
use Rattle.std.proofs.lemmas.Bool.{true≢false, cases_order}
use Rattle.audit_model.specs.declared.pair.Pair.{Pair}
use Rattle.audit_model.specs.declared.sighting.SightId.{SightId}
use Rattle.audit_sightings.specs.Intake.{Taken, sighting_at}
use Rattle.audit_rules.specs.Keys.{KeyFor}
use Rattle.audit_server.specs.Placing.{times_placed}
use Rattle.audit_server.specs.Rules.{Rules}
use Rattle.audit_server.specs.Run.{RunFrom}
use Rattle.audit_server.specs.State.{State, at_first, after}
use Rattle.audit_server.specs.Step.{Step, Move, In, Act, Out}
use Rattle.audit_server.proofs.Once.{fold_cut, run_cut, splits_all, leaves, given_owes, both_counts, out_once}
use Rattle.audit_server.proofs.Orders.{all_left, all_right}
use Rattle.audit_whole.specs.CaptureRun.{rules_for, MayBePlaced, IsCaptureRun}
use Rattle.audit_segments.specs.Alike.{AreAlike, is_placed}
use Rattle.audit_segments.specs.Cut.{Cut, MayName}
use Rattle.audit_segments.specs.Claims.{IsComplete}
use Rattle.audit_segments.specs.Kept.{SentAreOwed}
use Rattle.audit_segments.specs.Segment.{IsSegment}
use Rattle.audit_segments.proofs.Due.{one_where}
use Rattle.audit_segments.proofs.Continuing.{run_too}
use Rattle.audit_segments.proofs.Joining.{run_front}
use Rattle.audit_segments.proofs.Keeping.{kept_alike, sent_owed_run}
use Rattle.audit_segments.proofs.Ordering.{times_append, keep_left, keep_right}
use Rattle.audit_segments.specs.After.{next_index, cut_after}
use Rattle.audit_segments.proofs.NextIndex.{below_there, next_index_has, next_index_from, keep_cross}
use Rattle.audit_segments.proofs.Rules.{ignore_past_grace}
use Rattle.audit_segments.proofs.States.{placed_below, below_placed, not_true, alike_sym, alike_trans, alike_more}

one_sight : (s t : SightId) → s.iface ≡ t.iface → s.index ≡ t.index → s ≡ t
one_sight s t i j = λ n. record { iface = i n; index = j n }

some_of : (v : Bool) → 1 ≤ one_where v → v ≡ true
some_of true h = refl
some_of false h = absurd (omega (arith, h))

zero_or : (n : ℕ) → (n ≡ 0) ⊎ (1 ≤ n)
zero_or n = grind arith

module _ (taken : Taken) (key_for : KeyFor) (p q : List Step) (r : IsCaptureRun taken (rules_for taken key_for) (p ++ q)) where
  abbrev W : Rules
  W = rules_for taken key_for

  abbrev there : SightId → Bool
  there s = is_some (sighting_at taken s)

  total : (s : SightId) → times_placed s p + times_placed s q ≡ one_where (there s)
  total s = sym (times_append s p q) ∙ r.placed s

  there_front : (s : SightId) → 1 ≤ times_placed s p → there s ≡ true
  there_front s h = some_of (there s) (omega (arith, h, total s))

  -- the sightings before one that the front places are placed by the front
  closed : (s t : SightId) → s.iface ≡ t.iface → t.index < s.index → 1 ≤ times_placed s p → 1 ≤ times_placed t p
  closed s t i lt h = elim (zero_or (times_placed t p)) [
    | inl z ↦
        let known : there t ≡ true = below_there taken s t (sym i) (omega (arith, lt)) (there_front s h) in
        let one : one_where (there t) ≡ 1 = ap one_where known in
        let back : 1 ≤ times_placed t q = omega (arith, z, one, total t) in
        absurd (omega (arith, lt, keep_cross s t p q r.order h back i))
    | inr some ↦ some
  ]

  front_has : (s : SightId) → is_placed (next_index p) s ≡ true → 1 ≤ times_placed s p
  front_has s h =
      let f = next_index_from s.iface s.index p (placed_below (next_index p) s h) in
      elim (cases_order s.index f.sight.index) [
        | inl e ↦ subst (λ (x : SightId). 1 ≤ times_placed x p) (one_sight f.sight s f.of (sym e)) f.there
        | inr o ↦ elim o [
          | inl lt ↦ closed f.sight s f.of lt f.there
          | inr gt ↦ absurd (omega (arith, gt, f.from))
        ]
      ]

  has_front : (s : SightId) → is_placed (next_index p) s ≡ false → times_placed s p ≡ 0
  has_front s h = elim (zero_or (times_placed s p)) [
    | inl z ↦ z
    | inr some ↦ absurd (true≢false (sym (below_placed (next_index p) s (next_index_has s p some)) ∙ h))
  ]

  runs_front : RunFrom W at_first p
  runs_front = run_front W p q at_first r.run.runs

  sent_owed : SentAreOwed (next_index p) (fold (after W) at_first p)
  sent_owed t h = sent_owed_run W t p at_first runs_front (has_front t h) refl

  -- the state that is kept after the front is alike to the one to which it leads
  pub after_front : AreAlike taken.policy.hold taken.policy.grace (next_index p) (λ _. false) (fold (after W) at_first p) (cut_after taken key_for p).state
  after_front = kept_alike taken.policy.hold taken.policy.grace (next_index p) (λ _. false) (fold (after W) at_first p) sent_owed

  -- the front does not place the departure of an act of the rest, which leaves later, and once
  gives_new : (before : List Step) (e : Step) (more : List Step) → before ++ e ∷ more ≡ q → (c : Pair) (s t : SightId) → e.move ≡ Act c s t → is_placed (next_index p) t ≡ false
  gives_new before e more h c s t is = not_true (is_placed (next_index p) t) (λ b.
      let whole : (p ++ before) ++ e ∷ more ≡ p ++ q = append_assoc p before (e ∷ more) ∙ ap (λ l. p ++ l) h in
      let run : RunFrom W at_first ((p ++ before) ++ e ∷ more) = subst (λ (l : List Step). RunFrom W at_first l) (sym whole) r.run.runs in
      let st : State = fold (after W) at_first (p ++ before) in
      let from : RunFrom W st (e ∷ more) = run_cut W (p ++ before) (e ∷ more) at_first run in
      let end : (fold (after W) (after W st e) more).owed t ≡ None = subst (λ (x : State). x.owed t ≡ None) (fold_cut W (p ++ before) (e ∷ more) at_first) (subst (λ (l : List Step). (fold (after W) at_first l).owed t ≡ None) (sym whole) (r.run.nothing_owed t)) in
      let left = out_once t more (leaves W t more (after W st e) from.1 (given_owes W st e c s t from.0 is) end) in
      let in_rest : 1 ≤ times_placed t more = omega (arith, left, both_counts t more) in
      let rest : times_placed t q ≡ times_placed t before + times_placed t (e ∷ more) = sym (ap (times_placed t) h) ∙ times_append t before (e ∷ more) in
      let tail : times_placed t ((e ∷ []) ++ more) ≡ times_placed t (e ∷ []) + times_placed t more = times_append t (e ∷ []) more in
      let few : one_where (there t) ≤ 1 = at_most (there t) in
      absurd (omega (arith, front_has t b, in_rest, rest, tail, total t, few))) where
        at_most : (v : Bool) → one_where v ≤ 1
        at_most true = omega arith
        at_most false = omega arith

  pub rest_names : AllByRecursion (λ (e : Step). MayName (cut_after taken key_for p) e.move) q
  rest_names = splits_all (λ (e : Step). MayName (cut_after taken key_for p) e.move) q (λ before e more h. by_move before e more h e.move refl) where
    by_move : (before : List Step) (e : Step) (more : List Step) → before ++ e ∷ more ≡ q → (m : Move) → e.move ≡ m → MayName (cut_after taken key_for p) m
    by_move before e more h (In s) is = refl
    by_move before e more h (Act c s t) is = (refl, refl, gives_new before e more h c s t is)
    by_move before e more h (Out t) is = refl

-- with more steps the next index does not decrease
next_index_grows : (p m : List Step) (iface : ℕ) → next_index p iface ≤ next_index (p ++ m) iface
next_index_grows p m iface = elim (zero_or (next_index p iface)) [
  | inl z ↦ omega (arith, z)
  | inr some ↦ grown (next_index p iface) some refl
] where
  grown : (n : ℕ) → 1 ≤ n → next_index p iface ≡ n → n ≤ next_index (p ++ m) iface
  grown n some is =
      let f = next_index_from iface (n - 1) p (omega (arith, some, is)) in
      let k : f.sight.index < next_index (p ++ m) f.sight.iface = next_index_has f.sight (p ++ m) (omega (arith, f.there, times_append f.sight p m)) in
      let l : f.sight.index < next_index (p ++ m) iface = subst (λ (x : ℕ). f.sight.index < next_index (p ++ m) x) f.of k in
      omega (arith, l, f.from, some)

module _ (taken : Taken) (key_for : KeyFor) (p m q : List Step) (r : IsCaptureRun taken (rules_for taken key_for) (p ++ (m ++ q))) where
  abbrev V : Rules
  V = rules_for taken key_for

  abbrev old : Cut
  old = cut_after taken key_for p

  abbrev new : Cut
  new = cut_after taken key_for (p ++ m)

  whole : IsCaptureRun taken V ((p ++ m) ++ q)
  whole = subst (λ (l : List Step). IsCaptureRun taken V l) (sym (append_assoc p m q)) r

  due_by : (s : SightId) (v a b : Bool) → is_some (sighting_at taken s) ≡ v → is_placed (next_index p) s ≡ a → is_placed (next_index (p ++ m)) s ≡ b → times_placed s m ≡ one_where ((v && true) && (not a && b))
  due_by s false a b hv ha hb = omega (arith, total taken key_for (p ++ m) q whole s, ap one_where hv, times_append s p m)
  due_by s true true b hv ha hb = omega (arith, total taken key_for (p ++ m) q whole s, ap one_where hv, times_append s p m, front_has taken key_for p (m ++ q) r s ha)
  due_by s true false true hv ha hb = omega (arith, total taken key_for (p ++ m) q whole s, ap one_where hv, times_append s p m, has_front taken key_for p (m ++ q) r s ha, front_has taken key_for (p ++ m) q whole s hb)
  due_by s true false false hv ha hb = omega (arith, times_append s p m, has_front taken key_for (p ++ m) q whole s hb)

  names : AllByRecursion (λ (e : Step). MayName old e.move) m
  names = all_left (λ (e : Step). MayName old e.move) m q (rest_names taken key_for p (m ++ q) r)

  goes : RunFrom V old.state m × AreAlike taken.policy.hold taken.policy.grace old.placed old.excluded (fold (after V) (fold (after V) at_first p) m) (fold (after V) old.state m)
  goes = run_too V (ignore_past_grace taken.policy key_for (sighting_at taken)) old m (fold (after V) at_first p) old.state (after_front taken key_for p (m ++ q) r) names
      (run_front V m q (fold (after V) at_first p) (run_cut V p (m ++ q) at_first r.run.runs))

  leads : AreAlike taken.policy.hold taken.policy.grace new.placed new.excluded (fold (after V) old.state m) new.state
  leads =
      let k = alike_sym taken.policy.hold taken.policy.grace old.placed old.excluded (fold (after V) (fold (after V) at_first p) m) (fold (after V) old.state m) goes.1 in
      let l = subst (λ (x : State). AreAlike taken.policy.hold taken.policy.grace new.placed new.excluded x new.state) (fold_cut V p m at_first) (after_front taken key_for (p ++ m) q whole) in
      alike_trans taken.policy.hold taken.policy.grace new.placed new.excluded (fold (after V) old.state m) (fold (after V) (fold (after V) at_first p) m) new.state
      (alike_more taken.policy.hold taken.policy.grace old.placed new.placed old.excluded new.excluded (next_index_grows p m) (λ s e. e) (fold (after V) old.state m) (fold (after V) (fold (after V) at_first p) m) k) l

  -- the steps between two places of the run are a segment
  pub between : IsSegment taken.policy key_for (sighting_at taken) old m new
  between = record {
    placed = λ s. due_by s (is_some (sighting_at taken s)) (is_placed (next_index p) s) (is_placed (next_index (p ++ m)) s) refl refl refl;
    seen = all_left (λ (e : Step). MayBePlaced taken e.moment e.move) m q (all_right (λ (e : Step). MayBePlaced taken e.moment e.move) p (m ++ q) r.seen);
    order = keep_left m q (keep_right p (m ++ q) r.order);
    names = names;
    runs = goes.0;
    leads = leads;
    extends = record { placed = next_index_grows p m; excluded = λ s e. e; settled = λ s e. refl };
  }

pub complete_after : (taken : Taken) (key_for : KeyFor) (steps : List Step) → IsCaptureRun taken (rules_for taken key_for) steps → IsComplete taken (cut_after taken key_for steps)
complete_after taken key_for steps r = record {
  all = λ s h. below_placed (next_index steps) s (next_index_has s steps (let one : one_where (is_some (sighting_at taken s)) ≡ 1 = ap one_where h in omega (arith, one, r.placed s)));
  owed = λ t h. r.run.nothing_owed t;
}
