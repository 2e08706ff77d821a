-- What is due from a first cut to a third is what is due to the second, and from the second to the third.
use Rattle.std.proofs.Common.{◌≡◌, ◌≤◌, ◌+◌, ℕ, Bool, true, false, ◌&&◌, cond, refl, sym, ◌∙◌, ap, arith}
use Rattle.std.specs.Prelude.{not}
use Rattle.std.proofs.lemmas.Bool.{true≢false, and_parts, not-true}

abbrev pub one_where : Bool → ℕ
one_where b = cond b 1 0

and_false : (x : Bool) → (x && false) ≡ false
and_false true = refl
and_false false = refl

no_where : (b : Bool) → b ≡ false → one_where b ≡ 0
no_where b h = ap one_where h

pub is_one : (b : Bool) → 1 ≤ one_where b → b ≡ true
is_one true h = refl
is_one false h = absurd (omega (arith, h))

-- a sighting that is due is placed by the new cut and not by the old one
pub due_parts : (v x a b : Bool) → 1 ≤ one_where ((v && not x) && (not a && b)) → (a ≡ false) × (b ≡ true)
due_parts v x a b h =
    let k : ((v && not x) && (not a && b)) ≡ true = is_one ((v && not x) && (not a && b)) h in
    let l : (not a && b) ≡ true = (and_parts (v && not x) (not a && b) k).1 in
    let m = and_parts (not a) b l in
    (not-true a m.0, m.1)

module _ (v xb xc : Bool) where
  sum_placed : (a c : Bool) → c ≡ true → xc ≡ xb →
      one_where ((v && not xb) && (not a && true)) + one_where ((v && not xc) && (not true && c)) ≡ one_where ((v && not xc) && (not a && c))
  sum_placed a c hc hx =
      let none : one_where ((v && not xc) && (not true && c)) ≡ 0 = no_where ((v && not xc) && (not true && c)) (and_false (v && not xc)) in
      let same : one_where ((v && not xc) && (not a && c)) ≡ one_where ((v && not xb) && (not a && true)) = ap (λ (d : Bool). one_where ((v && not xc) && (not a && d))) hc ∙ ap (λ (d : Bool). one_where ((v && not d) && (not a && true))) hx in
      omega (arith, none, same)

  sum_unplaced : (a c : Bool) → a ≡ false →
      one_where ((v && not xb) && (not a && false)) + one_where ((v && not xc) && (not false && c)) ≡ one_where ((v && not xc) && (not a && c))
  sum_unplaced a c ha =
      let none : one_where ((v && not xb) && (not a && false)) ≡ 0 = no_where ((v && not xb) && (not a && false)) (ap (λ (d : Bool). (v && not xb) && d) (and_false (not a)) ∙ and_false (v && not xb)) in
      let same : one_where ((v && not xc) && (not a && c)) ≡ one_where ((v && not xc) && (not false && c)) = ap (λ (d : Bool). one_where ((v && not xc) && (not d && c))) ha in
      omega (arith, none, same)

  pub due_sum : (a b c : Bool) → (a ≡ true → b ≡ true) → (b ≡ true → c ≡ true) → (b ≡ true → xc ≡ xb) →
      one_where ((v && not xb) && (not a && b)) + one_where ((v && not xc) && (not b && c)) ≡ one_where ((v && not xc) && (not a && c))
  due_sum a true c ha hc hx = sum_placed a c (hc refl) (hx refl)
  due_sum true false c ha hc hx = absurd (true≢false (sym (ha refl)))
  due_sum false false c ha hc hx = sum_unplaced false c refl

-- the same is due by a view that has the sightings that are due
pub due_same : (v u x a b : Bool) → (x ≡ false → a ≡ false → b ≡ true → v ≡ u) → one_where ((v && not x) && (not a && b)) ≡ one_where ((u && not x) && (not a && b))
due_same v u true a b f = ap (λ (d : Bool). one_where (d && (not a && b))) (and_false v ∙ sym (and_false u))
due_same v u false true b f = ap one_where (and_false (v && true) ∙ sym (and_false (u && true)))
due_same v u false false true f = ap (λ (d : Bool). one_where ((d && true) && true)) (f refl refl refl)
due_same v u false false false f = ap one_where (and_false (v && true) ∙ sym (and_false (u && true)))

-- from the empty cut
pub due_first : (v x b : Bool) → one_where ((v && not x) && (not false && b)) ≡ one_where ((v && not x) && b)
due_first v x b = refl

pub and_true : (x : Bool) → (x && true) ≡ x
and_true true = refl
and_true false = refl
