-- Two lists that keep the order of interfaces keep it one after the other, if the first places earlier sightings than the second.
use Rattle.std.proofs.Common.{◌≡◌, ◌≤◌, ◌<◌, ◌+◌, Some, List, [], ◌∷◌, ◌++◌, arith}
use Rattle.std.specs.List.{AllByRecursion}
use Rattle.audit_model.specs.declared.sighting.SightId.{SightId}
use Rattle.audit_server.specs.Placing.{places, placed, times_placed, Follow, KeepOrder}
use Rattle.audit_server.specs.Step.{Step}
use Rattle.audit_server.proofs.Along.{placed_places}
use Rattle.audit_server.proofs.Orders.{all_append, all_left, all_weaker}
use Rattle.audit_server.proofs.Placing.{one_if}
use Rattle.audit_server.proofs.Sorting.{count_cons}

pub times_append : (s : SightId) (p q : List Step) → times_placed s (p ++ q) ≡ times_placed s p + times_placed s q
times_append s [] q = omega arith
times_append s (e ∷ p) q = omega (arith, count_cons (λ (d : Step). places s d.move) e (p ++ q), count_cons (λ (d : Step). places s d.move) e p, times_append s p q)

-- what the move places is such a sighting
abbrev pub PlacesSuch : (SightId → Type 0) → Step → Type 0
PlacesSuch P e = (s : SightId) → placed e.move ≡ Some s → P s

-- what holds of each sighting that is placed once at least holds of what each step places
pub each_placed : (P : SightId → Type 0) (es : List Step) → ((s : SightId) → 1 ≤ times_placed s es → P s) → AllByRecursion (PlacesSuch P) es
each_placed P [] f = tt
each_placed P (e ∷ es) f = (
  λ s h. let one = one_if (places s e.move) (placed_places e.move s h) in f s (omega (arith, one, count_cons (λ (d : Step). places s d.move) e es)),
  each_placed P es (λ s h. f s (omega (arith, h, count_cons (λ (d : Step). places s d.move) e es))),
)

pub keep_join : (P Q : SightId → Type 0) → ((s t : SightId) → P s → Q t → s.iface ≡ t.iface → s.index < t.index) → (p q : List Step) →
    AllByRecursion (PlacesSuch P) p → AllByRecursion (PlacesSuch Q) q → KeepOrder p → KeepOrder q → KeepOrder (p ++ q)
keep_join P Q f [] q hp hq kp kq = kq
keep_join P Q f (e ∷ p) q hp hq kp kq = (
  all_append (λ (d : Step). Follow e.move d.move) p q kp.0
      (all_weaker (PlacesSuch Q) (λ (d : Step). Follow e.move d.move) (λ d h s t ps pt i. f s t (hp.0 s ps) (h t pt) i) q hq),
  keep_join P Q f p q hp.1 hq kp.1 kq,
)

pub keep_left : (p q : List Step) → KeepOrder (p ++ q) → KeepOrder p
keep_left [] q k = tt
keep_left (e ∷ p) q k = (all_left (λ (d : Step). Follow e.move d.move) p q k.0, keep_left p q k.1)

pub keep_right : (p q : List Step) → KeepOrder (p ++ q) → KeepOrder q
keep_right [] q k = k
keep_right (e ∷ p) q k = keep_right p q k.1
