-- The sorted list: it rises, and has of each lane what the lane has.
use Rattle.std.proofs.Common.{◌≡◌, ◌≢◌, ◌≤◌, ◌+◌, inl, inr, ℕ, Bool, true, false, List, [], ◌∷◌, ◌++◌, cond, refl, sym, ◌∙◌, ap, subst, arith, ◌==◌, map}
use Rattle.std.specs.Prelude.{count_by}
use Rattle.std.specs.List.{AllByRecursion}
use Rattle.std.specs.List.Sorted.{IsStrictlySortedBy}
use Rattle.std.specs.declared.cmp.Ordering.{Ordering}
use Rattle.std.specs.declared.cmp.Ordering.TheVariants.{Less, Equal, Greater}
use Rattle.std.specs.Ordering.{is_lt, ordering_reverse}
use Rattle.std.proofs.lemmas.Bool.{eqb-true, eqb-false, eq-eqb, ne_eqb, cond-true, cond-false, cases_eq}
use Rattle.std.proofs.lemmas.Bool.Decides.{nat_tests}
use Rattle.std.proofs.lemmas.List.{append-nil}
use Rattle.std.proofs.lemmas.List.Sums.{sum_by-cons}
use Rattle.audit_model.specs.declared.event.At.{At}
use Rattle.audit_server.specs.Glued.{Numbered, joined, inserted, sorted}
use Rattle.audit_server.specs.Placed.{at_cmp, Placed, step_of, of_lane, Rises}
use Rattle.audit_server.specs.Step.{Step}
use Rattle.audit_server.proofs.Orders.{at_total, all_append, all_left, all_right, all_weaker}
use Rattle.audit_server.proofs.Whole.{lane_append}

-- ---- what does not depend on the order

module _ (P : Placed → Type 0) where
  pub all_inserted : (e : Placed) (ds : List Placed) → P e → AllByRecursion P ds → AllByRecursion P (inserted e ds)
  all_inserted e [] p h = (p, tt)
  all_inserted e (d ∷ ds) p h = elim (is_lt (at_cmp e.at d.at)) as (λ b. AllByRecursion P (cond b (e ∷ d ∷ ds) (d ∷ inserted e ds))) [ true ↦ (p, h) | false ↦ (h.0, all_inserted e ds p h.1) ]

  pub all_of_inserted : (e : Placed) (ds : List Placed) → AllByRecursion P (inserted e ds) → P e × AllByRecursion P ds
  all_of_inserted e [] h = (h.0, tt)
  all_of_inserted e (d ∷ ds) h = elim (is_lt (at_cmp e.at d.at)) as (λ b. AllByRecursion P (cond b (e ∷ d ∷ ds) (d ∷ inserted e ds)) → P e × (P d × AllByRecursion P ds)) [
    | true ↦ λ k. k
    | false ↦ λ k. let r = all_of_inserted e ds k.1 in (r.0, (k.0, r.1))
  ] h

  pub all_sorted : (es : List Placed) → AllByRecursion P es → AllByRecursion P (sorted es)
  all_sorted [] h = tt
  all_sorted (e ∷ es) h = all_inserted e (sorted es) h.0 (all_sorted es h.1)

  pub all_of_sorted : (es : List Placed) → AllByRecursion P (sorted es) → AllByRecursion P es
  all_of_sorted [] h = tt
  all_of_sorted (e ∷ es) h = let r = all_of_inserted e (sorted es) h in (r.0, all_of_sorted es r.1)

pub count_cons : (p : Step → Bool) (e : Step) (es : List Step) → count_by p (e ∷ es) ≡ cond (p e) 1 0 + count_by p es
count_cons p e es = sum_by-cons (λ x. cond (p x) 1 0) e es

pub count_inserted : (p : Step → Bool) (e : Placed) (ds : List Placed) → count_by p (map step_of (inserted e ds)) ≡ cond (p (step_of e)) 1 0 + count_by p (map step_of ds)
count_inserted p e [] = count_cons p (step_of e) []
count_inserted p e (d ∷ ds) = elim (is_lt (at_cmp e.at d.at)) as (λ b. count_by p (map step_of (cond b (e ∷ d ∷ ds) (d ∷ inserted e ds))) ≡ cond (p (step_of e)) 1 0 + count_by p (step_of d ∷ map step_of ds)) [
  | true ↦ count_cons p (step_of e) (step_of d ∷ map step_of ds)
  | false ↦ count_cons p (step_of d) (map step_of (inserted e ds)) ∙ omega (arith, count_inserted p e ds, count_cons p (step_of d) (map step_of ds))
]

pub count_sorted : (p : Step → Bool) (es : List Placed) → count_by p (map step_of (sorted es)) ≡ count_by p (map step_of es)
count_sorted p [] = refl
count_sorted p (e ∷ es) = omega (arith, count_inserted p e (sorted es), count_sorted p es, count_cons p (step_of e) (map step_of es))

-- ---- the order

less_reversed : (a b : At) → at_cmp a b ≡ Greater → at_cmp b a ≡ Less
less_reversed a b h = at_total.antisymm b a ∙ ap ordering_reverse h

ordered : (o : Ordering) → o ≢ Equal → is_lt o ≡ false → o ≡ Greater
ordered Less ne h = cc
ordered Equal ne h = absurd (ne refl)
ordered Greater ne h = refl

is_less : (o : Ordering) → is_lt o ≡ true → o ≡ Less
is_less Less h = refl
is_less Equal h = cc
is_less Greater h = cc

pub rises_inserted : (e : Placed) (ds : List Placed) → AllByRecursion (λ (d : Placed). at_cmp e.at d.at ≢ Equal) ds → Rises ds → Rises (inserted e ds)
unfolding IsStrictlySortedBy
rises_inserted e [] n r = (tt, tt)
rises_inserted e (d ∷ ds) n r = elim (is_lt (at_cmp e.at d.at)) as (λ b. is_lt (at_cmp e.at d.at) ≡ b → Rises (cond b (e ∷ d ∷ ds) (d ∷ inserted e ds))) [
  | true ↦ λ q.
      let l : at_cmp e.at d.at ≡ Less = is_less (at_cmp e.at d.at) q in
      ((l, all_weaker (λ (x : Placed). at_cmp d.at x.at ≡ Less) (λ (x : Placed). at_cmp e.at x.at ≡ Less) (λ x h. at_total.trans e.at d.at x.at l h) ds r.0), r)
  | false ↦ λ q.
      (all_inserted (λ (x : Placed). at_cmp d.at x.at ≡ Less) e ds (less_reversed e.at d.at (ordered (at_cmp e.at d.at) n.0 q)) r.0, rises_inserted e ds n.1 r.1)
] refl

-- no two stand at one place
abbrev pub Apart : List Placed → Type 0
Apart [] = Unit {0}
Apart (e ∷ es) = AllByRecursion (λ (d : Placed). at_cmp e.at d.at ≢ Equal) es × Apart es

pub rises_sorted : (es : List Placed) → Apart es → Rises (sorted es)
unfolding IsStrictlySortedBy
rises_sorted [] a = tt
rises_sorted (e ∷ es) a = rises_inserted e (sorted es) (all_sorted (λ (d : Placed). at_cmp e.at d.at ≢ Equal) es a.0) (rises_sorted es a.1)

-- ---- of each lane, what the lane has

other_inserted : (lane : ℕ) (e : Placed) (ds : List Placed) → e.at.lane ≢ lane → of_lane lane (inserted e ds) ≡ of_lane lane ds
other_inserted lane e [] ne = cond-false (e.at.lane == lane) (e ∷ []) [] (ne_eqb e.at.lane lane ne)
other_inserted lane e (d ∷ ds) ne = elim (is_lt (at_cmp e.at d.at)) as (λ b. of_lane lane (cond b (e ∷ d ∷ ds) (d ∷ inserted e ds)) ≡ of_lane lane (d ∷ ds)) [
  | true ↦ cond-false (e.at.lane == lane) (e ∷ of_lane lane (d ∷ ds)) (of_lane lane (d ∷ ds)) (ne_eqb e.at.lane lane ne)
  | false ↦ ap (λ xs. cond (d.at.lane == lane) (d ∷ xs) xs) (other_inserted lane e ds ne)
]

own_inserted : (lane : ℕ) (e : Placed) (ds : List Placed) → e.at.lane ≡ lane → AllByRecursion (λ (d : Placed). at_cmp e.at d.at ≡ Less) (of_lane lane ds) → of_lane lane (inserted e ds) ≡ e ∷ of_lane lane ds
own_inserted lane e [] is h = cond-true (e.at.lane == lane) (e ∷ []) [] (eq-eqb e.at.lane lane is)
own_inserted lane e (d ∷ ds) is h = elim (is_lt (at_cmp e.at d.at)) as (λ b. is_lt (at_cmp e.at d.at) ≡ b → of_lane lane (cond b (e ∷ d ∷ ds) (d ∷ inserted e ds)) ≡ e ∷ of_lane lane (d ∷ ds)) [
  | true ↦ λ q. cond-true (e.at.lane == lane) (e ∷ of_lane lane (d ∷ ds)) (of_lane lane (d ∷ ds)) (eq-eqb e.at.lane lane is)
  | false ↦ λ q. elim (d.at.lane == lane) as (λ b. AllByRecursion (λ (x : Placed). at_cmp e.at x.at ≡ Less) (cond b (d ∷ of_lane lane ds) (of_lane lane ds)) →
      cond b (d ∷ of_lane lane (inserted e ds)) (of_lane lane (inserted e ds)) ≡ e ∷ (cond b (d ∷ of_lane lane ds) (of_lane lane ds))) [
        | true ↦ λ k. absurd (let i : at_cmp e.at d.at ≡ Less = k.0 in let j : is_lt (at_cmp e.at d.at) ≡ true = ap is_lt i in let m : true ≡ false = sym j ∙ q in cc)
        | false ↦ λ k. own_inserted lane e ds is k
      ] h
] refl

pub of_lane_sorted : (lane : ℕ) (es : List Placed) → Rises (of_lane lane es) → of_lane lane (sorted es) ≡ of_lane lane es
unfolding IsStrictlySortedBy
of_lane_sorted lane [] r = refl
of_lane_sorted lane (e ∷ es) r = elim (e.at.lane == lane) as (λ b. (e.at.lane == lane) ≡ b → Rises (cond b (e ∷ of_lane lane es) (of_lane lane es)) → of_lane lane (inserted e (sorted es)) ≡ cond b (e ∷ of_lane lane es) (of_lane lane es)) [
  | true ↦ λ q k.
      let ih : of_lane lane (sorted es) ≡ of_lane lane es = of_lane_sorted lane es k.1 in
      own_inserted lane e (sorted es) (eqb-true e.at.lane lane q) (subst (λ (xs : List Placed). AllByRecursion (λ (d : Placed). at_cmp e.at d.at ≡ Less) xs) (sym ih) k.0) ∙ ap (λ xs. e ∷ xs) ih
  | false ↦ λ q k. other_inserted lane e (sorted es) (eqb-false e.at.lane lane q) ∙ of_lane_sorted lane es k
] refl r

-- ---- lists that are numbered

pub all_from : (n : ℕ) (ls : List (List Placed)) → Numbered n ls → AllByRecursion (λ (e : Placed). n ≤ e.at.lane) (joined ls)
all_from n [] h = tt
all_from n (l ∷ ls) h = all_append (λ (e : Placed). n ≤ e.at.lane) l (joined ls)
    (all_weaker (λ (e : Placed). e.at.lane ≡ n) (λ (e : Placed). n ≤ e.at.lane) (λ e k. omega arith) l h.0)
    (all_weaker (λ (e : Placed). (n + 1) ≤ e.at.lane) (λ (e : Placed). n ≤ e.at.lane) (λ e k. omega arith) (joined ls) (all_from (n + 1) ls h.1))

pub none_of_lane : (lane : ℕ) (es : List Placed) → AllByRecursion (λ (e : Placed). e.at.lane ≢ lane) es → of_lane lane es ≡ []
none_of_lane lane [] h = refl
none_of_lane lane (e ∷ es) h = cond-false (e.at.lane == lane) (e ∷ of_lane lane es) (of_lane lane es) (ne_eqb e.at.lane lane h.0) ∙ none_of_lane lane es h.1

pub all_lane : (lane : ℕ) (es : List Placed) → AllByRecursion (λ (e : Placed). e.at.lane ≡ lane) es → of_lane lane es ≡ es
all_lane lane [] h = refl
all_lane lane (e ∷ es) h = cond-true (e.at.lane == lane) (e ∷ of_lane lane es) (of_lane lane es) (eq-eqb e.at.lane lane h.0) ∙ ap (λ xs. e ∷ xs) (all_lane lane es h.1)

-- of the joined lists, a lane has its list
first_of : (n : ℕ) (l : List Placed) (ls : List (List Placed)) → Numbered n (l ∷ ls) → of_lane n (joined (l ∷ ls)) ≡ l
first_of n l ls h = lane_append n l (joined ls) ∙ ap (λ xs. xs ++ of_lane n (joined ls)) (all_lane n l h.0)
    ∙ ap (λ xs. l ++ xs) (none_of_lane n (joined ls) (all_weaker (λ (e : Placed). (n + 1) ≤ e.at.lane) (λ (e : Placed). e.at.lane ≢ n) (λ e k q. absurd (omega arith)) (joined ls) (all_from (n + 1) ls h.1))) ∙ append-nil l

others_of : (n lane : ℕ) (l : List Placed) (ls : List (List Placed)) → lane ≢ n → Numbered n (l ∷ ls) → of_lane lane (joined (l ∷ ls)) ≡ of_lane lane (joined ls)
others_of n lane l ls ne h = lane_append lane l (joined ls) ∙ ap (λ xs. xs ++ of_lane lane (joined ls)) (none_of_lane lane l (all_weaker (λ (e : Placed). e.at.lane ≡ n) (λ (e : Placed). e.at.lane ≢ lane) (λ e k q. ne (sym q ∙ k)) l h.0))

module _ (P : List Placed → Type 0) (at_nil : P []) where
  -- what holds of each list holds of each lane's part, and the other way round
  pub each_lane : (n : ℕ) (ls : List (List Placed)) → Numbered n ls → AllByRecursion P ls → (lane : ℕ) → P (of_lane lane (joined ls))
  each_lane n [] h a lane = at_nil
  each_lane n (l ∷ ls) h a lane = elim (cases_eq lane n) [
    | inl e ↦ subst (λ (m : ℕ). P (of_lane m (joined (l ∷ ls)))) (sym e) (subst P (sym (first_of n l ls h)) a.0)
    | inr ne ↦ subst P (sym (others_of n lane l ls ne h)) (each_lane (n + 1) ls h.1 a.1 lane)
  ]

  pub each_list : (n : ℕ) (ls : List (List Placed)) → Numbered n ls → ((lane : ℕ) → P (of_lane lane (joined ls))) → AllByRecursion P ls
  each_list n [] h f = tt
  each_list n (l ∷ ls) h f = (
    subst P (first_of n l ls h) (f n),
    each_list (n + 1) ls h.1 (λ lane. elim (cases_eq lane n) [
      | inl e ↦ subst P (sym (none_of_lane lane (joined ls) (all_weaker (λ (d : Placed). (n + 1) ≤ d.at.lane) (λ (d : Placed). d.at.lane ≢ lane) (λ d k q. absurd (omega arith)) (joined ls) (all_from (n + 1) ls h.1)))) at_nil
      | inr ne ↦ subst P (others_of n lane l ls ne h) (f lane)
    ]),
  )

pub all_joined : {A : Type 0} (P : A → Type 0) (xss : List (List A)) → AllByRecursion (AllByRecursion P) xss → AllByRecursion P (joined xss)
all_joined P [] h = tt
all_joined P (xs ∷ xss) h = all_append P xs (joined xss) h.0 (all_joined P xss h.1)

pub all_of_joined : {A : Type 0} (P : A → Type 0) (xss : List (List A)) → AllByRecursion P (joined xss) → AllByRecursion (AllByRecursion P) xss
all_of_joined P [] h = tt
all_of_joined P (xs ∷ xss) h = (all_left P xs (joined xss) h, all_of_joined P xss (all_right P xs (joined xss) h))

-- steps of different lanes, or of one that rises, stand apart
equal_lane : (a b : At) → at_cmp a b ≡ Equal → a.lane ≡ b.lane
equal_lane a b h = grind (arith, nat_tests)

apart_append : (es ds : List Placed) → Rises es → AllByRecursion (λ (e : Placed). AllByRecursion (λ (d : Placed). at_cmp e.at d.at ≢ Equal) ds) es → Apart ds → Apart (es ++ ds)
unfolding IsStrictlySortedBy
apart_append [] ds r h a = a
apart_append (e ∷ es) ds r h a = (
  all_append (λ (d : Placed). at_cmp e.at d.at ≢ Equal) es ds (all_weaker (λ (d : Placed). at_cmp e.at d.at ≡ Less) (λ (d : Placed). at_cmp e.at d.at ≢ Equal) (λ d l q. let k : Less ≡ Equal = sym l ∙ q in cc) es r.0) h.0,
  apart_append es ds r.1 h.1 a,
)

pub apart_joined : (n : ℕ) (ls : List (List Placed)) → Numbered n ls → AllByRecursion Rises ls → Apart (joined ls)
apart_joined n [] h r = tt
apart_joined n (l ∷ ls) h r =
    apart_append l (joined ls) r.0
    (all_weaker (λ (e : Placed). e.at.lane ≡ n) (λ (e : Placed). AllByRecursion (λ (d : Placed). at_cmp e.at d.at ≢ Equal) (joined ls))
    (λ e is. all_weaker (λ (d : Placed). (n + 1) ≤ d.at.lane) (λ (d : Placed). at_cmp e.at d.at ≢ Equal) (λ d k q. let m = equal_lane e.at d.at q in absurd (omega arith)) (joined ls) (all_from (n + 1) ls h.1)) l h.0)
    (apart_joined (n + 1) ls h.1 r.1)
