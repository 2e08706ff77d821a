-- A run that explains the captures has at most two steps for each sighting: what places it, and what acts on it.
use Rattle.std.proofs.Common.{◌≡◌, ◌≤◌, ◌+◌, ◌*◌, ℕ, Bool, true, false, cond, Option, Some, None, List, [], ◌∷◌, length, refl, sym, ap, subst, arith}
use Rattle.std.specs.Prelude.{is_some, IsSomeAnd, count_by}
use Rattle.std.specs.List.{AllByRecursion}
use Rattle.std.proofs.lemmas.Bool.{true≢false}
use Rattle.audit_model.specs.declared.pair.Pair.{Pair}
use Rattle.audit_model.specs.declared.sighting.SightId.{SightId}
use Rattle.audit_model.specs.declared.sighting.Sighting.{Sighting}
use Rattle.audit_model.specs.Sames.{same_sight}
use Rattle.audit_model.proofs.Sames.{sight_true, sight_same}
use Rattle.audit_sightings.specs.ByInterface.{count_of}
use Rattle.audit_sightings.specs.Intake.{Taken, sighting_at}
use Rattle.audit_rules.specs.Allocation.{Allocation}
use Rattle.audit_rules.specs.Keys.{KeyFor}
use Rattle.audit_server.specs.Captured.{MayBetween}
use Rattle.audit_server.specs.Placing.{places, times_placed}
use Rattle.audit_server.specs.Rules.{Rules}
use Rattle.audit_server.specs.Run.{InTime, MayMove, RunFrom}
use Rattle.audit_server.specs.State.{State, at_first, after, waiting_after}
use Rattle.audit_server.specs.Step.{Step, Move, In, Act, Out}
use Rattle.audit_server.proofs.Once.{ins, is_in, both_counts}
use Rattle.audit_server.proofs.Sorting.{count_cons}
use Rattle.audit_whole.specs.CaptureRun.{rules_for, MayBePlaced, IsCaptureRun}
use Rattle.audit_whole.proofs.Sums.{total, total_more, total_plus, total_ones, total_at}

-- ---- acts on one sighting

abbrev pub is_act_on : SightId → Move → Bool
is_act_on s (In x) = false
is_act_on s (Act c x y) = same_sight x s
is_act_on s (Out x) = false

abbrev pub acts_on : SightId → List Step → ℕ
acts_on s es = count_by (λ (e : Step). is_act_on s e.move) es

abbrev one_where : Bool → ℕ
one_where b = cond b 1 0

abbrev waits : SightId → State → ℕ
waits s st = one_where (is_some (st.waiting s))

-- what an act takes was waiting
step_takes : (w : Rules) (s : SightId) (st : State) (moment : ℕ) (m : Move) → MayMove w st moment m → one_where (is_act_on s m) + one_where (is_some (waiting_after st moment m s)) ≤ one_where (is_in s m) + waits s st
step_takes w s st moment (In x) may = elim (same_sight s x) as (λ b. same_sight s x ≡ b → 0 + one_where (is_some (cond b (Some moment) (st.waiting s))) ≤ one_where (same_sight x s) + waits s st) [
  | true ↦ λ q. let e : same_sight x s ≡ true = sight_same x s (sym (sight_true s x q)) in omega (arith, ap one_where e)
  | false ↦ λ q. omega arith
] refl
step_takes w s st moment (Act c x y) may = elim (same_sight x s) as (λ b. same_sight x s ≡ b → one_where b + one_where (is_some (cond (same_sight s x) None (st.waiting s))) ≤ 0 + waits s st) [
  | true ↦ λ q.
      let e : x ≡ s = sight_true x s q in
      let back : same_sight s x ≡ true = sight_same s x (sym e) in
      let there : one_where (is_some (st.waiting s)) ≡ 1 = subst (λ (z : SightId). one_where (is_some (st.waiting z)) ≡ 1) e (in_time (st.waiting x) may.0) in
      omega (arith, ap (λ b. one_where (is_some (cond b None (st.waiting s)))) back, there)
  | false ↦ λ q. elim (same_sight s x) as (λ b. 0 + one_where (is_some (cond b None (st.waiting s))) ≤ 0 + waits s st) [ true ↦ omega arith | false ↦ omega arith ]
] refl where
  in_time : (o : Option ℕ) → InTime w o moment → one_where (is_some o) ≡ 1
  in_time None h = absurd h
  in_time (Some n) h = refl
step_takes w s st moment (Out x) may = omega arith

-- each act on it takes one arrival of it
acts_taken : (w : Rules) (s : SightId) (es : List Step) (st : State) → RunFrom w st es → acts_on s es ≤ ins s es + waits s st
acts_taken w s [] st r = omega arith
acts_taken w s (e ∷ es) st r = omega (
  arith,
  count_cons (λ (d : Step). is_act_on s d.move) e es,
  count_cons (λ (d : Step). is_in s d.move) e es,
  step_takes w s st e.moment e.move r.0.may,
  acts_taken w s es (after w st e) r.1,
)

-- ---- all steps, by the sightings that they name

module _ (taken : Taken) (counts : Move → Bool) (test : SightId → Move → Bool) where
  -- where it counts, it names a sighting that was captured
  abbrev pub NamesOne : Move → Type 0
  NamesOne m = counts m ≡ true → (s : SightId) × (x : Sighting) × (sighting_at taken s ≡ Some x) × (test s m ≡ true)

  one_named : (m : Move) → NamesOne m → one_where (counts m) ≤ total taken (λ s. one_where (test s m))
  one_named m h = elim (counts m) as (λ b. counts m ≡ b → one_where b ≤ total taken (λ s. one_where (test s m))) [
    | true ↦ λ q. let k = h q in omega (arith, total_at taken (λ s. one_where (test s m)) k.0 k.1 k.2, ap one_where k.3)
    | false ↦ λ q. omega arith
  ] refl

  pub all_named : (es : List Step) → AllByRecursion (λ (e : Step). NamesOne e.move) es → count_by (λ (e : Step). counts e.move) es ≤ total taken (λ s. count_by (λ (e : Step). test s e.move) es)
  all_named [] h = omega arith
  all_named (e ∷ es) h = omega (
    arith,
    count_cons (λ (d : Step). counts d.move) e es,
    one_named e.move h.0,
    all_named es h.1,
    total_plus taken (λ s. one_where (test s e.move)) (λ s. count_by (λ (d : Step). test s d.move) es),
    total_more taken (λ s. one_where (test s e.move) + count_by (λ (d : Step). test s d.move) es) (λ s. count_by (λ (d : Step). test s d.move) (e ∷ es)) (λ s. omega (arith, count_cons (λ (d : Step). test s d.move) e es)),
  )

abbrev is_placing : Move → Bool
is_placing (In s) = true
is_placing (Act c s t) = false
is_placing (Out t) = true

abbrev is_act : Move → Bool
is_act (In s) = false
is_act (Act c s t) = true
is_act (Out t) = false

one_of_both : (m : Move) → one_where (is_placing m) + one_where (is_act m) ≡ 1
one_of_both (In s) = omega arith
one_of_both (Act c s t) = omega arith
one_of_both (Out t) = omega arith

length_both : (es : List Step) → length es ≡ count_by (λ (e : Step). is_placing e.move) es + count_by (λ (e : Step). is_act e.move) es
length_both [] = omega arith
length_both (e ∷ es) = omega (arith, count_cons (λ (d : Step). is_placing d.move) e es, count_cons (λ (d : Step). is_act d.move) e es, one_of_both e.move, length_both es)

module _ (taken : Taken) (key_for : KeyFor) where
  some_there : (o : Option Sighting) (P : Sighting → Type 0) → IsSomeAnd o P → (x : Sighting) × (o ≡ Some x)
  some_there None P h = absurd h
  some_there (Some x) P h = (x, refl)

  placed_names : (moment : ℕ) (m : Move) → MayBePlaced taken moment m → NamesOne taken is_placing (λ s m. places s m) m
  placed_names moment (In s) h k = let r = some_there (sighting_at taken s) _ h in (s, r.0, r.1, sight_same s s refl)
  placed_names moment (Act c s t) h k = absurd (true≢false (sym k))
  placed_names moment (Out t) h k = let r = some_there (sighting_at taken t) _ h in (t, r.0, r.1, sight_same t t refl)

  all_placed : (es : List Step) → AllByRecursion (λ (e : Step). MayBePlaced taken e.moment e.move) es → AllByRecursion (λ (e : Step). NamesOne taken is_placing (λ s m. places s m) e.move) es
  all_placed [] h = tt
  all_placed (e ∷ es) h = (placed_names e.moment e.move h.0, all_placed es h.1)

  arrival_there : (c : Pair) (moment : ℕ) (found : Option Allocation) (o q : Option Sighting) → MayBetween taken.policy key_for c moment found o q → (x : Sighting) × (o ≡ Some x)
  arrival_there c moment found None q h = absurd h
  arrival_there c moment found (Some x) q h = (x, refl)

  act_names : (st : State) (moment : ℕ) (m : Move) → MayMove (rules_for taken key_for) st moment m → NamesOne taken is_act (λ s m. is_act_on s m) m
  act_names st moment (In s) h k = absurd (true≢false (sym k))
  act_names st moment (Act c s t) h k = let r = arrival_there c moment (st.table c) (sighting_at taken s) (sighting_at taken t) h.2 in (s, r.0, r.1, sight_same s s refl)
  act_names st moment (Out t) h k = absurd (true≢false (sym k))

  all_acts : (es : List Step) (st : State) → RunFrom (rules_for taken key_for) st es → AllByRecursion (λ (e : Step). NamesOne taken is_act (λ s m. is_act_on s m) e.move) es
  all_acts [] st r = tt
  all_acts (e ∷ es) st r = (act_names st e.moment e.move r.0.may, all_acts es (after (rules_for taken key_for) st e) r.1)

  at_most : (b : Bool) → one_where b ≤ 1
  at_most true = omega arith
  at_most false = omega arith

  -- no more than two for each sighting
  pub few_steps : (steps : List Step) → IsCaptureRun taken (rules_for taken key_for) steps → length steps ≤ 2 * count_of taken.interfaces
  few_steps steps r =
      let once : (s : SightId) → times_placed s steps ≤ 1 = λ s. subst (λ (n : ℕ). n ≤ 1) (sym (r.placed s)) (at_most (is_some (sighting_at taken s))) in
      let acts : (s : SightId) → acts_on s steps ≤ 1 = λ s. omega (arith, once s, both_counts s steps, acts_taken (rules_for taken key_for) s steps at_first r.run.runs) in
      omega (
        arith,
        length_both steps,
        all_named taken is_placing (λ s m. places s m) steps (all_placed steps r.seen),
        all_named taken is_act (λ s m. is_act_on s m) steps (all_acts steps at_first r.run.runs),
        total_ones taken (λ s. times_placed s steps) once,
        total_ones taken (λ s. acts_on s steps) acts,
      )
