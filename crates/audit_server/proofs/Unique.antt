-- A rising list is known by its lanes.
use Rattle.std.proofs.Common.{◌≡◌, ◌⊎◌, inl, inr, ℕ, true, false, List, [], ◌∷◌, cond, refl, sym, ◌∙◌, ap, subst, ◌==◌}
use Rattle.std.specs.List.{AllByRecursion}
use Rattle.std.specs.List.Sorted.{IsStrictlySortedBy}
use Rattle.std.specs.declared.cmp.Ordering.TheVariants.{Less}
use Rattle.std.proofs.lemmas.Bool.{eq-eqb, cond-true}
use Rattle.audit_server.specs.Placed.{at_cmp, Placed, of_lane, Rises}
use Rattle.audit_server.proofs.Orders.{at_asym, all_weaker}

-- the first of a rising list is below, or is, each of it
abbrev FirstOf : Placed → List Placed → Type 0
FirstOf x xs = AllByRecursion (λ (y : Placed). (y ≡ x) ⊎ (at_cmp x.at y.at ≡ Less)) xs

first_is : (x : Placed) (xs : List Placed) → Rises (x ∷ xs) → FirstOf x (x ∷ xs)
unfolding IsStrictlySortedBy
first_is x xs r = (inl refl, all_weaker (λ (y : Placed). at_cmp x.at y.at ≡ Less) (λ (y : Placed). (y ≡ x) ⊎ (at_cmp x.at y.at ≡ Less)) (λ y h. inr h) xs r.0)

-- x stands in each list whose lanes are those of xs
abbrev Stands : Placed → List Placed → Type 0
Stands x [] = ⊥
Stands x (y ∷ ys) = (y ≡ x) ⊎ Stands x ys

stands_filter : (x : Placed) (lane : ℕ) (ys : List Placed) → Stands x (of_lane lane ys) → Stands x ys
stands_filter x lane [] h = h
stands_filter x lane (y ∷ ys) h = elim (y.at.lane == lane) as (λ b. Stands x (cond b (y ∷ of_lane lane ys) (of_lane lane ys)) → (y ≡ x) ⊎ Stands x ys) [
  | true ↦ λ k. elim k [ inl e ↦ inl e | inr m ↦ inr (stands_filter x lane ys m) ]
  | false ↦ λ k. inr (stands_filter x lane ys k)
] h

stands_all : (P : Placed → Type 0) (x : Placed) (ys : List Placed) → Stands x ys → AllByRecursion P ys → P x
stands_all P x [] s a = absurd s
stands_all P x (y ∷ ys) (inl e) a = subst P e a.0
stands_all P x (y ∷ ys) (inr s) a = stands_all P x ys s a.1

own_head : (x : Placed) (xs : List Placed) → of_lane x.at.lane (x ∷ xs) ≡ x ∷ of_lane x.at.lane xs
own_head x xs = cond-true (x.at.lane == x.at.lane) (x ∷ of_lane x.at.lane xs) (of_lane x.at.lane xs) (eq-eqb x.at.lane x.at.lane refl)

stands_in : (x : Placed) (xs ys : List Placed) → of_lane x.at.lane (x ∷ xs) ≡ of_lane x.at.lane ys → Stands x ys
stands_in x xs ys h = stands_filter x x.at.lane ys (subst (Stands x) (sym (own_head x xs) ∙ h) (inl refl))

same_first : (x y : Placed) (xs ys : List Placed) → Rises (x ∷ xs) → Rises (y ∷ ys) → ((i : ℕ) → of_lane i (x ∷ xs) ≡ of_lane i (y ∷ ys)) → y ≡ x
same_first x y xs ys r q h =
    elim (stands_all (λ (z : Placed). (z ≡ y) ⊎ (at_cmp y.at z.at ≡ Less)) x (y ∷ ys) (stands_in x xs (y ∷ ys) (h x.at.lane)) (first_is y ys q)) [
      | inl e ↦ sym e
      | inr l ↦ elim (stands_all (λ (z : Placed). (z ≡ x) ⊎ (at_cmp x.at z.at ≡ Less)) y (x ∷ xs) (stands_in y ys (x ∷ xs) (sym (h y.at.lane))) (first_is x xs r)) [
        | inl e ↦ e
        | inr m ↦ absurd (at_asym x.at y.at m l)
      ]
    ]

tail_same : (x : Placed) (xs ys : List Placed) (i : ℕ) → of_lane i (x ∷ xs) ≡ of_lane i (x ∷ ys) → of_lane i xs ≡ of_lane i ys
tail_same x xs ys i h = elim (x.at.lane == i) as (λ b. cond b (x ∷ of_lane i xs) (of_lane i xs) ≡ cond b (x ∷ of_lane i ys) (of_lane i ys) → of_lane i xs ≡ of_lane i ys) [
  | true ↦ λ k. cc
  | false ↦ λ k. k
] h

none_left : (y : Placed) (ys : List Placed) → ((i : ℕ) → [] ≡ of_lane i (y ∷ ys)) → ⊥
none_left y ys h = let e : [] ≡ y ∷ of_lane y.at.lane ys = h y.at.lane ∙ own_head y ys in cc

pub unique : (xs ys : List Placed) → Rises xs → Rises ys → ((i : ℕ) → of_lane i xs ≡ of_lane i ys) → xs ≡ ys
unfolding IsStrictlySortedBy
unique [] [] r q h = refl
unique [] (y ∷ ys) r q h = absurd (none_left y ys h)
unique (x ∷ xs) [] r q h = absurd (none_left x xs (λ i. sym (h i)))
unique (x ∷ xs) (y ∷ ys) r q h =
    let e : y ≡ x = same_first x y xs ys r q h in
    let k : (i : ℕ) → of_lane i (x ∷ xs) ≡ of_lane i (x ∷ ys) = λ i. h i ∙ ap (λ (z : Placed). of_lane i (z ∷ ys)) e in
    ap (λ zs. x ∷ zs) (unique xs ys r.1 q.1 (λ i. tail_same x xs ys i (k i))) ∙ ap (λ z. z ∷ ys) (sym e)
