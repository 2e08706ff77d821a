-- Where keys rise along each interface, the glued list keeps each interface's order.
use Rattle.std.proofs.Common.{◌≡◌, ◌≤◌, ◌<◌, ◌⊎◌, inl, inr, true, Option, Some, None, List, [], ◌∷◌, refl, sym, ◌∙◌, ap, subst, arith, map}
use Rattle.std.specs.List.{AllByRecursion}
use Rattle.std.specs.List.Sorted.{IsStrictlySortedBy}
use Rattle.std.specs.declared.cmp.Ordering.TheVariants.{Less}
use Rattle.std.proofs.lemmas.Bool.{cases_order}
use Rattle.std.proofs.lemmas.Bool.Decides.{nat_tests}
use Rattle.audit_model.specs.declared.event.At.{At}
use Rattle.audit_model.specs.declared.sighting.SightId.{SightId}
use Rattle.audit_model.specs.Breach.{key_cmp}
use Rattle.audit_model.proofs.Sames.{sight_same}
use Rattle.audit_server.specs.Glued.{sorted}
use Rattle.audit_server.specs.Placed.{at_cmp, Placed, step_of, Rises}
use Rattle.audit_server.specs.Placing.{places, placed, times_placed, Follow, KeepOrder, KeyFollows, KeysFollow}
use Rattle.audit_server.specs.Step.{Step, Move, In, Act, Out}
use Rattle.audit_server.proofs.Orders.{at_asym, all_weaker}
use Rattle.audit_server.proofs.Sorting.{all_sorted, count_cons}
use Rattle.audit_server.proofs.Placing.{one_if}

key_less : (a b : At) → key_cmp a.key b.key ≡ Less → at_cmp a b ≡ Less
key_less a b h = grind (arith, nat_tests)

pub placed_places : (m : Move) (s : SightId) → placed m ≡ Some s → places s m ≡ true
placed_places (In x) s h = let e : x ≡ s = cc in sight_same x s e
placed_places (Act c x y) s h = absurd (let k : None ≡ Some s = h in cc)
placed_places (Out x) s h = let e : x ≡ s = cc in sight_same x s e

counted : (s : SightId) (es : List Placed) → times_placed s (map step_of es) ≡ 0 → AllByRecursion (λ (d : Placed). places s d.move ≡ true → ⊥) es
counted s [] h = tt
counted s (e ∷ es) h = (
  λ k. let o = one_if (places s e.move) k in absurd (omega (arith, count_cons (λ (d : Step). places s d.move) (step_of e) (map step_of es))),
  counted s es (omega (arith, count_cons (λ (d : Step). places s d.move) (step_of e) (map step_of es))),
)

one_sight : (s t : SightId) → s.iface ≡ t.iface → s.index ≡ t.index → s ≡ t
one_sight s t i j = λ n. record { iface = i n; index = j n }

follows : (e d : Placed) (s t : SightId) → at_cmp e.at d.at ≡ Less → KeyFollows d e → (places s d.move ≡ true → ⊥) → placed e.move ≡ Some s → placed d.move ≡ Some t → s.iface ≡ t.iface → s.index < t.index
follows e d s t l k once ps pt i = elim (cases_order s.index t.index) [
  | inl q ↦ absurd (once (placed_places d.move s (pt ∙ ap Some (sym (one_sight s t i q)))))
  | inr r ↦ elim r [
    | inl lt ↦ lt
    | inr gt ↦ absurd (at_asym e.at d.at l (key_less d.at e.at (k t s pt ps (sym i) gt)))
  ]
]

option_cases : {A : Type 0} (x : Option A) → (x ≡ None) ⊎ ((s : A) × (x ≡ Some s))
option_cases None = inl refl
option_cases (Some s) = inr (s, refl)

all_three : {A : Type 0} (P Q R S : A → Type 0) → ((x : A) → P x → Q x → R x → S x) → (xs : List A) → AllByRecursion P xs → AllByRecursion Q xs → AllByRecursion R xs → AllByRecursion S xs
all_three P Q R S f [] h k l = tt
all_three P Q R S f (x ∷ xs) h k l = (f x h.0 k.0 l.0, all_three P Q R S f xs h.1 k.1 l.1)

all_true : {A : Type 0} (P : A → Type 0) → ((x : A) → P x) → (xs : List A) → AllByRecursion P xs
all_true P f [] = tt
all_true P f (x ∷ xs) = (f x, all_true P f xs)

heads : (e : Placed) (es : List Placed) → AllByRecursion (λ (d : Placed). AllByRecursion (KeyFollows d) (e ∷ es)) es → AllByRecursion (λ (d : Placed). KeyFollows d e) es
heads e es h = all_weaker (λ (d : Placed). AllByRecursion (KeyFollows d) (e ∷ es)) (λ (d : Placed). KeyFollows d e) (λ d k. k.0) es h

steps_all : (P : Step → Type 0) (es : List Placed) → AllByRecursion (λ (e : Placed). P (step_of e)) es → AllByRecursion P (map step_of es)
steps_all P [] h = tt
steps_all P (e ∷ es) h = (h.0, steps_all P es h.1)

some_is : (a b : SightId) → Some a ≡ Some b → a ≡ b
some_is a b h = let k : a ≡ b = cc in k

pub keeps_order : (es : List Placed) → Rises es → KeysFollow es → ((s : SightId) → times_placed s (map step_of es) ≤ 1) → KeepOrder (map step_of es)
unfolding IsStrictlySortedBy
keeps_order [] r k n = tt
keeps_order (e ∷ es) r k n = (
  steps_all (λ (d : Step). Follow e.move d.move) es (elim (option_cases (placed e.move)) [
    | inl none ↦ all_true (λ (d : Placed). Follow e.move d.move) (λ d s t ps pt. absurd (let q : None ≡ Some s = sym none ∙ ps in cc)) es
    | inr found ↦
        let s : SightId = found.0 in
        let one = one_if (places s e.move) (placed_places e.move s found.1) in
        let m = n s in
        all_three (λ (d : Placed). at_cmp e.at d.at ≡ Less) (λ (d : Placed). KeyFollows d e) (λ (d : Placed). places s d.move ≡ true → ⊥) (λ (d : Placed). Follow e.move d.move)
        (λ d l kf once s' t ps pt i.
        follows e d s' t l kf (subst (λ (x : SightId). places x d.move ≡ true → ⊥) (some_is s s' (sym found.1 ∙ ps)) once) ps pt i)
        es r.0 (heads e es k.1)
        (counted s es (omega (arith, count_cons (λ (d : Step). places s d.move) (step_of e) (map step_of es))))
  ]),
  keeps_order es r.1 (all_weaker (λ (d : Placed). AllByRecursion (KeyFollows d) (e ∷ es)) (λ (d : Placed). AllByRecursion (KeyFollows d) es) (λ d h. h.1) es k.1)
      (λ s. let m = n s in omega (arith, count_cons (λ (d : Step). places s d.move) (step_of e) (map step_of es))),
)

pub follow_sorted : (es : List Placed) → KeysFollow es → KeysFollow (sorted es)
follow_sorted es k = all_sorted (λ (d : Placed). AllByRecursion (KeyFollows d) (sorted es)) es (all_weaker (λ (d : Placed). AllByRecursion (KeyFollows d) es) (λ (d : Placed). AllByRecursion (KeyFollows d) (sorted es)) (λ d h. all_sorted (KeyFollows d) es h) es k)
