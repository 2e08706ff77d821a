-- What is checked covers what may clash; and what a lane remembers of its tenancies.
use Rattle.std.proofs.Common.{◌≡◌, ◌≢◌, ◌≤◌, ◌+◌, ◌⊎◌, inl, inr, ℕ, Option, Some, None, List, [], ◌∷◌, ◌++◌, refl, sym, ◌∙◌, ap, subst, arith, append_assoc}
use Rattle.std.specs.Prelude.{Contains}
use Rattle.std.specs.List.{AllByRecursion}
use Rattle.std.proofs.lemmas.List.{append-nil}
use Rattle.std.proofs.lemmas.List.Elements.{Contains-append_left, Contains-append_right, Contains-append_cases, Contains-push}
use Rattle.audit_model.specs.declared.verdict.Tenancy.{Tenancy}
use Rattle.audit_rules.specs.Allocation.{Allocation}
use Rattle.audit_server.specs.Rules.{Rules}
use Rattle.audit_server.specs.State.{acted}
use Rattle.audit_server.specs.Placed.{Placed}
use Rattle.std.specs.Prelude.{option_to_list}
use Rattle.audit_server.specs.Tenancies.{running, ended, tenancies_from, tenancies_in}
use Rattle.audit_server.specs.Whole.{all_tenancies}
use Rattle.audit_whole.proofs.Conforming.{contained_all}
use Rattle.audit_prefix.specs.Turn.{has_after, runs_after, ended_in, Turn, whole, fresh_in, fresh, IsPast, MayClash, AreEnough, Covers}
use Rattle.audit_prefix.specs.Walk.{Memory, nothing_yet, remembered, remembered_all}
use Rattle.audit_prefix.proofs.Continuing.{LaneTurns, wholes, so_far, all_born}

-- ---- what a lane remembers

pub remembers : (w : Rules) (es : List Placed) (m : Memory) →
    ((remembered_all w m es).allocation ≡ has_after w m.allocation es) × ((remembered_all w m es).runs ≡ runs_after w m.allocation m.runs es) × ((remembered_all w m es).ended ≡ m.ended ++ ended_in w m.allocation m.runs es)
remembers w [] m = (refl, refl, sym (append-nil m.ended))
remembers w (e ∷ es) m =
    let k = remembers w es (remembered w m e) in
    (k.0, k.1, k.2 ∙ append_assoc m.ended (option_to_list (ended w e.at e.move m.allocation m.runs)) (ended_in w (acted w e.at.key.moment e.move m.allocation) (running w e.at e.move m.allocation m.runs) es))

pub remembered_cut : (w : Rules) (p q : List Placed) (m : Memory) → remembered_all w m (p ++ q) ≡ remembered_all w (remembered_all w m p) q
remembered_cut w [] q m = refl
remembered_cut w (e ∷ p) q m = remembered_cut w p q (remembered w m e)

-- the tenancies of a lane: those that ended, and the one that runs
pub tenancies_are : (w : Rules) (es : List Placed) → tenancies_in w es ≡ (remembered_all w nothing_yet es).ended ++ option_to_list (remembered_all w nothing_yet es).runs
tenancies_are w es =
    let k = remembers w es nothing_yet in
    so_far w es None None ∙ ap (λ ts. ts ++ option_to_list (runs_after w None None es)) (sym k.2) ∙ ap (λ o. (remembered_all w nothing_yet es).ended ++ option_to_list o) (sym k.1)

-- and the fresh ones: those that ended since, and the one that runs
pub fresh_are : (w : Rules) (turn : Turn) (since : List Tenancy) → (remembered_all w nothing_yet (whole turn)).ended ≡ (remembered_all w nothing_yet turn.before).ended ++ since →
    fresh_in w turn ≡ since ++ option_to_list (remembered_all w nothing_yet (whole turn)).runs
fresh_are w turn since h =
    let x : Option Allocation = has_after w None turn.before in
    let ten : Option Tenancy = runs_after w None None turn.before in
    let b = remembers w turn.before nothing_yet in
    let a = remembers w turn.more (remembered_all w nothing_yet turn.before) in
    let c = remembered_cut w turn.before turn.more nothing_yet in
    let ended : ended_in w x ten turn.more ≡ since = same_left (remembered_all w nothing_yet turn.before).ended (ended_in w x ten turn.more) since
    (ap (λ (o : Option Allocation). (remembered_all w nothing_yet turn.before).ended ++ ended_in w o ten turn.more) (sym b.0)
    ∙ ap (λ (o : Option Tenancy). (remembered_all w nothing_yet turn.before).ended ++ ended_in w (remembered_all w nothing_yet turn.before).allocation o turn.more) (sym b.1)
    ∙ sym a.2 ∙ ap (λ (m : Memory). m.ended) (sym c) ∙ h) in
    let runs : runs_after w x ten turn.more ≡ (remembered_all w nothing_yet (whole turn)).runs =
    ap (λ (o : Option Allocation). runs_after w o ten turn.more) (sym b.0) ∙ ap (λ (o : Option Tenancy). runs_after w (remembered_all w nothing_yet turn.before).allocation o turn.more) (sym b.1)
    ∙ sym a.1 ∙ ap (λ (m : Memory). m.runs) (sym c) in
    so_far w turn.more x ten ∙ ap (λ ts. ts ++ option_to_list (runs_after w x ten turn.more)) ended ∙ ap (λ o. since ++ option_to_list o) runs where
      same_tail : (z : Tenancy) (xs ys : List Tenancy) → z ∷ xs ≡ z ∷ ys → xs ≡ ys
      same_tail z xs ys e = let k : xs ≡ ys = cc in k

      same_left : (zs xs ys : List Tenancy) → zs ++ xs ≡ zs ++ ys → xs ≡ ys
      same_left [] xs ys e = e
      same_left (z ∷ zs) xs ys e = same_left zs xs ys (same_tail z (zs ++ xs) (zs ++ ys) e)

-- ---- what is checked

pub found_in : (w : Rules) (turns : List Turn) (t : Tenancy) → Contains (fresh w turns) t → (turn : Turn) × Contains turns turn × Contains (fresh_in w turn) t
found_in w [] t c = absurd (omega (arith, c.1))
found_in w (turn ∷ turns) t c = elim (Contains-append_cases (fresh_in w turn) (fresh w turns) t c) [
  | inl k ↦ (turn, Contains-append_left (turn ∷ []) turns turn (Contains-push [] turn), k)
  | inr k ↦ let r = found_in w turns t k in (r.0, Contains-append_right (turn ∷ []) turns r.0 r.1, r.2)
]

pasts : (w : Rules) (horizon n : ℕ) (turns : List Turn) → LaneTurns w horizon n turns → AllByRecursion (IsPast horizon) turns
pasts w horizon n [] l = tt
pasts w horizon n (turn ∷ turns) l = (l.0.past, pasts w horizon (n + 1) turns l.1)

in_one : (o : Option Tenancy) (t : Tenancy) → Contains (option_to_list o) t → o ≡ Some t
in_one None t c = absurd (omega (arith, c.1))
in_one (Some u) t c = contained_all (λ (x : Tenancy). Some u ≡ Some x) (u ∷ []) t (refl, tt) c

pub enough_of : (w : Rules) (horizon n : ℕ) (turns : List Turn) (checked : List Tenancy) → LaneTurns w horizon n turns → ((t : Tenancy) → Contains checked t → Contains (all_tenancies w (wholes turns)) t) → Covers w (Some horizon) turns checked →
    AreEnough horizon (all_tenancies w (wholes turns)) (fresh w turns) checked
enough_of w horizon n turns checked l no_others covers = record {
  no_others = no_others;
  each_two = λ new held a b may. (new_checked new a may, held_checked new held a b may);
} where
  by_more : (turn : Turn) → (turn.more ≡ []) ⊎ (turn.more ≢ [])
  by_more turn = elim turn.more as (λ es. (es ≡ []) ⊎ (es ≢ [])) [ [] ↦ inl refl | e ∷ es ↦ inr (λ q. let k : e ∷ es ≡ [] = q in cc) ]

  runs_of : (turn : Turn) (t : Tenancy) → turn.more ≡ [] → Contains (fresh_in w turn) t → runs_after w None None turn.before ≡ Some t
  runs_of turn t q c = in_one (runs_after w None None turn.before) t (subst (λ (es : List Placed). Contains (tenancies_from w (has_after w None turn.before) (runs_after w None None turn.before) es) t) q c)

  held_checked : (new held : Tenancy) → Contains (fresh w turns) new → Contains (fresh w turns) held → MayClash horizon new held → Contains checked held
  held_checked new held a b may =
      let f = found_in w turns held b in
      elim (by_more f.0) [
        | inl q ↦ covers.others f.0 f.1 q held new (runs_of f.0 held q f.2) a may
        | inr q ↦ covers.touched f.0 f.1 q held f.2
      ]

  new_checked : (new : Tenancy) {held : Tenancy} → Contains (fresh w turns) new → MayClash horizon new held → Contains checked new
  new_checked new a may =
      let f = found_in w turns new a in
      elim (by_more f.0) [
        | inl q ↦
            let past : IsPast horizon f.0 = contained_all (IsPast horizon) turns f.0 (pasts w horizon n turns l) f.1 in
            let here : Contains (tenancies_in w f.0.before) new = subst (λ (ts : List Tenancy). Contains ts new) (sym (so_far w f.0.before None None))
            (Contains-append_right (ended_in w None None f.0.before) (option_to_list (runs_after w None None f.0.before)) new (subst (λ (o : Option Tenancy). Contains (option_to_list o) new) (sym (runs_of f.0 new q f.2)) (0, omega arith, refl))) in
            absurd (omega (arith, may.new_born, contained_all (λ (u : Tenancy). u.born.key.moment ≤ horizon) (tenancies_in w f.0.before) new (all_born w horizon f.0.before past.before) here))
        | inr q ↦ covers.touched f.0 f.1 q new f.2
      ]

-- ---- before the first horizon

abbrev pub IsNew : Turn → Type 0
IsNew turn = turn.before ≡ []

-- if no lane had events before, all tenancies are checked
pub all_checked : (w : Rules) (last : Option ℕ) (turns : List Turn) (checked : List Tenancy) → AllByRecursion IsNew turns → Covers w last turns checked → (t : Tenancy) → Contains (all_tenancies w (wholes turns)) t → Contains checked t
all_checked w last turns checked new covers = from turns (λ t k. k) new where
  by_turn : (turn : Turn) → Contains turns turn → turn.before ≡ [] → (t : Tenancy) → Contains (tenancies_in w (whole turn)) t → Contains checked t
  by_turn turn c q t h =
      let f : Contains (fresh_in w turn) t = subst (λ (es : List Placed). Contains (tenancies_from w (has_after w None es) (runs_after w None None es) turn.more) t) (sym q) (subst (λ (es : List Placed). Contains (tenancies_in w (es ++ turn.more)) t) q h) in
      elim (by_more turn) [
        | inl n ↦ absurd (none t (subst (λ (es : List Placed). Contains (tenancies_in w es) t) (ap (λ (es : List Placed). es ++ turn.more) q ∙ n) h))
        | inr n ↦ covers.touched turn c n t f
      ] where
        by_more : (u : Turn) → (u.more ≡ []) ⊎ (u.more ≢ [])
        by_more u = elim u.more as (λ es. (es ≡ []) ⊎ (es ≢ [])) [ [] ↦ inl refl | e ∷ es ↦ inr (λ k. let m : e ∷ es ≡ [] = k in cc) ]

        none : (u : Tenancy) → Contains (tenancies_in w []) u → ⊥
        none u k = omega (arith, k.1)

  from : (ts : List Turn) → ((t : Turn) → Contains ts t → Contains turns t) → AllByRecursion IsNew ts → (t : Tenancy) → Contains (all_tenancies w (wholes ts)) t → Contains checked t
  from [] f n t h = absurd (omega (arith, h.1))
  from (u ∷ us) f n t h = elim (Contains-append_cases (tenancies_in w (whole u)) (all_tenancies w (wholes us)) t h) [
    | inl k ↦ by_turn u (f u (Contains-append_left (u ∷ []) us u (Contains-push [] u))) n.0 t k
    | inr k ↦ from us (λ v c. f v (Contains-append_right (u ∷ []) us v c)) n.1 t k
  ]
