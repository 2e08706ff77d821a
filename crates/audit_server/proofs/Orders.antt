-- The order of places.
use Rattle.std.proofs.Common.{◌≡◌, ◌≢◌, ◌≤◌, Bool, true, false, List, [], ◌∷◌, ◌++◌, cond, refl, sym, ◌∙◌, ap, arith}
use Rattle.std.specs.List.{filter, AllByRecursion}
use Rattle.std.specs.List.Sorted.{IsStrictlySortedBy}
use Rattle.std.specs.Cmp.{IsTotalOrder}
use Rattle.std.specs.declared.cmp.Ordering.TheVariants.{Less, Greater}
use Rattle.std.specs.Ordering.{ordering_reverse}
use Rattle.std.proofs.lemmas.Cmp.{on_total, then_total, nat_cmp_total}
use Rattle.std.proofs.lemmas.Bool.Decides.{nat_tests}
use Rattle.audit_model.specs.declared.event.At.{At}
use Rattle.audit_server.specs.Placed.{at_cmp, Placed, Rises}

pub at_total : IsTotalOrder at_cmp
at_total = then_total (then_total (on_total (λ (a : At). a.key.moment) nat_cmp_total) (on_total (λ (a : At). a.key.tie) nat_cmp_total)) (on_total (λ (a : At). a.lane) nat_cmp_total)

pub moment_le : (a b : At) → at_cmp a b ≡ Less → a.key.moment ≤ b.key.moment
moment_le a b h = grind (arith, nat_tests)

pub at_asym : (a b : At) → at_cmp a b ≡ Less → at_cmp b a ≢ Less
at_asym a b h k =
    let e : Less ≡ ordering_reverse Less = sym h ∙ at_total.antisymm a b ∙ ap ordering_reverse k in
    let f : ordering_reverse Less ≡ Greater = refl in
    cc

-- what holds of each
module _ {A : Type 0} (P : A → Type 0) where
  pub all_append : (xs ys : List A) → AllByRecursion P xs → AllByRecursion P ys → AllByRecursion P (xs ++ ys)
  all_append [] ys h k = k
  all_append (x ∷ xs) ys h k = (h.0, all_append xs ys h.1 k)

  pub all_left : (xs ys : List A) → AllByRecursion P (xs ++ ys) → AllByRecursion P xs
  all_left [] ys h = tt
  all_left (x ∷ xs) ys h = (h.0, all_left xs ys h.1)

  pub all_right : (xs ys : List A) → AllByRecursion P (xs ++ ys) → AllByRecursion P ys
  all_right [] ys h = h
  all_right (x ∷ xs) ys h = all_right xs ys h.1

  pub all_filter : (p : A → Bool) (xs : List A) → AllByRecursion P xs → AllByRecursion P (filter p xs)
  all_filter p [] h = tt
  all_filter p (x ∷ xs) h = elim (p x) as (λ b. AllByRecursion P (cond b (x ∷ filter p xs) (filter p xs))) [ true ↦ (h.0, all_filter p xs h.1) | false ↦ all_filter p xs h.1 ]

pub all_weaker : {A : Type 0} (P Q : A → Type 0) → ((x : A) → P x → Q x) → (xs : List A) → AllByRecursion P xs → AllByRecursion Q xs
all_weaker P Q f [] h = tt
all_weaker P Q f (x ∷ xs) h = (f x h.0, all_weaker P Q f xs h.1)

-- the steps before a step and after it
pub rises_before : (p : List Placed) (e : Placed) (q : List Placed) → Rises (p ++ e ∷ q) → AllByRecursion (λ d. at_cmp d.at e.at ≡ Less) p
unfolding IsStrictlySortedBy
rises_before [] e q h = tt
rises_before (d ∷ p) e q h = ((all_right (λ y. at_cmp d.at y.at ≡ Less) p (e ∷ q) h.0).0, rises_before p e q h.1)

pub rises_after : (p : List Placed) (e : Placed) (q : List Placed) → Rises (p ++ e ∷ q) → AllByRecursion (λ d. at_cmp e.at d.at ≡ Less) q
unfolding IsStrictlySortedBy
rises_after [] e q h = h.0
rises_after (d ∷ p) e q h = rises_after p e q h.1
