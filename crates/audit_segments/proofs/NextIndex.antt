-- The first steps of a run that explains the captures place the first sightings of each interface.
use Rattle.std.proofs.Common.{◌≡◌, ◌≤◌, ◌<◌, ◌+◌, ◌⊎◌, inl, inr, ℕ, zero, suc, Bool, true, false, ◌==◌, cond, Option, Some, None, List, [], ◌∷◌, ◌++◌, refl, sym, ap, subst, arith}
use Rattle.std.specs.Prelude.{is_some, max, slice_get, option_and_then}
use Rattle.std.specs.List.{AllByRecursion}
use Rattle.std.proofs.lemmas.Bool.{true≢false, eq-eqb, eqb-true, cond-true}
use Rattle.audit_model.specs.declared.sighting.SightId.{SightId}
use Rattle.audit_model.specs.declared.sighting.Sighting.{Sighting}
use Rattle.audit_model.proofs.Sames.{sight_true}
use Rattle.audit_sightings.specs.Intake.{Taken, sighting_at}
use Rattle.audit_server.specs.Placing.{places, placed, times_placed, Follow, KeepOrder}
use Rattle.audit_server.specs.Step.{Step, Move, In, Act, Out}
use Rattle.audit_server.proofs.Along.{placed_places}
use Rattle.audit_server.proofs.Orders.{all_right}
use Rattle.audit_server.proofs.Placing.{one_if}
use Rattle.audit_server.proofs.Sorting.{count_cons}
use Rattle.audit_segments.specs.After.{next_index_by, next_index}

-- ---- the sightings of an interface have the indices from 0 on

lower_there : (xs : List Sighting) (i j : ℕ) → i ≤ j → is_some (slice_get xs j) ≡ true → is_some (slice_get xs i) ≡ true
lower_there [] i j le h = absurd (true≢false (sym h))
lower_there (x ∷ xs) zero j le h = refl
lower_there (x ∷ xs) (suc i) zero le h = absurd (omega (arith, le))
lower_there (x ∷ xs) (suc i) (suc j) le h = lower_there xs i j (omega (arith, le)) h

row_there : (o : Option (List Sighting)) (i j : ℕ) → i ≤ j → is_some (option_and_then (λ row. slice_get row j) o) ≡ true → is_some (option_and_then (λ row. slice_get row i) o) ≡ true
row_there None i j le h = absurd (true≢false (sym h))
row_there (Some row) i j le h = lower_there row i j le h

pub below_there : (taken : Taken) (s t : SightId) → t.iface ≡ s.iface → t.index ≤ s.index → is_some (sighting_at taken s) ≡ true → is_some (sighting_at taken t) ≡ true
below_there taken s t i le h = subst (λ (n : ℕ). is_some (option_and_then (λ row. slice_get row t.index) (slice_get taken.interfaces n)) ≡ true) (sym i) (row_there (slice_get taken.interfaces s.iface) t.index s.index le h)

-- ---- the next index

places_placed : (m : Move) (s : SightId) → places s m ≡ true → placed m ≡ Some s
places_placed (In x) s h = ap Some (sight_true x s h)
places_placed (Act c x y) s h = absurd (true≢false (sym h))
places_placed (Out x) s h = ap Some (sight_true x s h)

next_index_more : (iface : ℕ) (o : Option SightId) (n : ℕ) → n ≤ next_index_by iface o n
next_index_more iface None n = omega arith
next_index_more iface (Some s) n = elim (s.iface == iface) as (λ b. n ≤ cond b (max (s.index + 1) n) n) [ true ↦ omega arith | false ↦ omega arith ]

next_index_own : (s : SightId) (n : ℕ) → s.index < next_index_by s.iface (Some s) n
next_index_own s n = subst (λ (m : ℕ). s.index < m) (sym (cond-true (s.iface == s.iface) (max (s.index + 1) n) n (eq-eqb s.iface s.iface refl))) (omega arith)

pub next_index_has : (s : SightId) (es : List Step) → 1 ≤ times_placed s es → s.index < next_index es s.iface
next_index_has s [] h = absurd (omega (arith, h))
next_index_has s (e ∷ es) h = elim (places s e.move) as (λ b. places s e.move ≡ b → s.index < next_index_by s.iface (placed e.move) (next_index es s.iface)) [
  | true ↦ λ q. subst (λ (o : Option SightId). s.index < next_index_by s.iface o (next_index es s.iface)) (sym (places_placed e.move s q)) (next_index_own s (next_index es s.iface))
  | false ↦ λ q.
      let none : cond {A = ℕ} (places s e.move) 1 0 ≡ 0 = ap (λ (b : Bool). cond {A = ℕ} b 1 0) q in
      let some : 1 ≤ times_placed s es = omega (arith, h, none, count_cons (λ (d : Step). places s d.move) e es) in
      omega (arith, next_index_has s es some, next_index_more s.iface (placed e.move) (next_index es s.iface))
] refl

-- a sighting of the interface that the steps place, at this index or later
pub record PlacesFrom (iface n : ℕ) (es : List Step) : Type 0 where
  pub sight : SightId
  pub of : sight.iface ≡ iface
  pub from : n ≤ sight.index
  pub there : 1 ≤ times_placed sight es

places_more : (iface n : ℕ) (e : Step) (es : List Step) → PlacesFrom iface n es → PlacesFrom iface n (e ∷ es)
places_more iface n e es p = record { sight = p.sight; of = p.of; from = p.from; there = omega (arith, p.there, count_cons (λ (d : Step). places p.sight d.move) e es) }

times_here : (s : SightId) (e : Step) (es : List Step) → placed e.move ≡ Some s → 1 ≤ times_placed s (e ∷ es)
times_here s e es h = let one = one_if (places s e.move) (placed_places e.move s h) in omega (arith, one, count_cons (λ (d : Step). places s d.move) e es)

below_either : (n a b : ℕ) → n < max (a + 1) b → (n ≤ a) ⊎ (n < b)
below_either n a b h = grind (arith, h)

from_by : (iface n m : ℕ) (e : Step) (es : List Step) → (n < m → PlacesFrom iface n es) → (o : Option SightId) → placed e.move ≡ o → n < next_index_by iface o m → PlacesFrom iface n (e ∷ es)
from_by iface n m e es f None is h = places_more iface n e es (f h)
from_by iface n m e es f (Some s) is h = elim (s.iface == iface) as (λ b. (s.iface == iface) ≡ b → n < cond b (max (s.index + 1) m) m → PlacesFrom iface n (e ∷ es)) [
  | true ↦ λ q k. elim (below_either n s.index m k) [
    | inl le ↦ record { sight = s; of = eqb-true s.iface iface q; from = le; there = times_here s e es is }
    | inr lt ↦ places_more iface n e es (f lt)
  ]
  | false ↦ λ q k. places_more iface n e es (f k)
] refl h

pub next_index_from : (iface n : ℕ) (es : List Step) → n < next_index es iface → PlacesFrom iface n es
next_index_from iface n [] h = absurd (omega (arith, h))
next_index_from iface n (e ∷ es) h = from_by iface n (next_index es iface) e es (next_index_from iface n es) (placed e.move) refl h

-- ---- the order of an interface

pick : (P : Step → Type 0) (t : SightId) (es : List Step) → AllByRecursion P es → 1 ≤ times_placed t es → (d : Step) × (placed d.move ≡ Some t) × P d
pick P t [] a h = absurd (omega (arith, h))
pick P t (e ∷ es) a h = elim (places t e.move) as (λ b. places t e.move ≡ b → (d : Step) × (placed d.move ≡ Some t) × P d) [
  | true ↦ λ q. (e, places_placed e.move t q, a.0)
  | false ↦ λ q.
      let none : cond {A = ℕ} (places t e.move) 1 0 ≡ 0 = ap (λ (b : Bool). cond {A = ℕ} b 1 0) q in
      pick P t es a.1 (omega (arith, h, none, count_cons (λ (d : Step). places t d.move) e es))
] refl

pub keep_cross : (s t : SightId) (p q : List Step) → KeepOrder (p ++ q) → 1 ≤ times_placed s p → 1 ≤ times_placed t q → s.iface ≡ t.iface → s.index < t.index
keep_cross s t [] q k hs ht i = absurd (omega (arith, hs))
keep_cross s t (e ∷ p) q k hs ht i = elim (places s e.move) as (λ b. places s e.move ≡ b → s.index < t.index) [
  | true ↦ λ z.
      let d = pick (λ (d : Step). Follow e.move d.move) t q (all_right (λ (d : Step). Follow e.move d.move) p q k.0) ht in
      d.2 s t (places_placed e.move s z) d.1 i
  | false ↦ λ z.
      let none : cond {A = ℕ} (places s e.move) 1 0 ≡ 0 = ap (λ (b : Bool). cond {A = ℕ} b 1 0) z in
      keep_cross s t p q k.1 (omega (arith, hs, none, count_cons (λ (d : Step). places s d.move) e p)) ht i
] refl
