-- Pairs of lanes, as new ones come.
use Rattle.std.proofs.Common.{◌≡◌, ◌<◌, ◌+◌, ℕ, Bool, true, false, ◌||◌, List, [], ◌∷◌, ◌++◌, length, map, take, drop, get_or, ◌↔◌, refl, sym, ap, ◌∙◌, subst, append_assoc}
use Rattle.std.specs.Prelude.{Result, Ok, Err, IfOk, IsTrue}
use Rattle.std.specs.List.{IsDistinct, AllByRecursion}
use Rattle.std.proofs.lemmas.Bool.{true≢false}
use Rattle.std.proofs.lemmas.List.{map-append, take_more, take-append-drop}
use Rattle.audit_model.specs.declared.address.Addr.{Addr}
use Rattle.audit_model.specs.declared.certificate.Certificate.{Certificate}
use Rattle.audit_model.specs.declared.certificate.CertLane.{CertLane}
use Rattle.audit_model.specs.declared.event.Event.{Event}
use Rattle.audit_model.specs.declared.extension.Extension.{Extension}
use Rattle.audit_model.specs.declared.lane_pairs.LanePairs.{LanePairs}
use Rattle.audit_model.specs.LanePairs.{has}
use Rattle.audit_model.specs.Lanes.{same_pair, same_lane, has_pair}
use Rattle.audit_model.proofs.Apart.{apart_push, same_lane_equiv}
use Rattle.audit_order.specs.Grown.{empty_lane, with_events, HasRoom, Fits}
use Rattle.audit_order.specs.Kept.{AreOfLanes}

any_append : (client listen : Addr) (xs ys : List CertLane) → has_pair client listen (xs ++ ys) ≡ (has_pair client listen xs || has_pair client listen ys)
any_append client listen [] ys = refl
any_append client listen (x ∷ xs) ys =
    ap (λ b. same_pair client listen x.client x.listen || b) (any_append client listen xs ys)
    ∙ sym (or_assoc (same_pair client listen x.client x.listen) (has_pair client listen xs) (has_pair client listen ys))
  where
    or_assoc : (a b c : Bool) → ((a || b) || c) ≡ (a || (b || c))
    or_assoc true b c = refl
    or_assoc false b c = refl

or_comm : (a b : Bool) → (a || b) ≡ (b || a)
or_comm true true = refl
or_comm true false = refl
or_comm false true = refl
or_comm false false = refl

or_none : (a : Bool) → (a || false) ≡ a
or_none true = refl
or_none false = refl

-- the lanes with one pair more
has_push : (client listen : Addr) (lanes : List CertLane) (pair : Addr × Addr) → has_pair client listen (lanes ++ empty_lane pair ∷ []) ≡ (same_pair client listen pair.0 pair.1 || has_pair client listen lanes)
has_push client listen lanes pair =
    any_append client listen lanes (empty_lane pair ∷ [])
    ∙ ap (λ b. has_pair client listen lanes || b) (or_none (same_pair client listen pair.0 pair.1))
    ∙ or_comm (has_pair client listen lanes) (same_pair client listen pair.0 pair.1)

pair_symm : (c l client listen : Addr) → same_pair c l client listen ≡ same_pair client listen c l
pair_symm c l client listen =
    let one : CertLane = record { events = []; client = c; listen = l } in
    let other : CertLane = record { events = []; client = client; listen = listen } in
    same_lane_equiv.symm one other

pub map_more : (pairs : List (Addr × Addr)) (i : ℕ) (pair : Addr × Addr) → i < length pairs
    → map empty_lane (take (i + 1) pairs) ≡ map empty_lane (take i pairs) ++ empty_lane (get_or pairs i pair) ∷ []
map_more pairs i pair within = ap (map empty_lane) (take_more pairs i pair within) ∙ map-append empty_lane (take i pairs) (get_or pairs i pair ∷ [])

-- the set goes on by one pair
pub pairs_push : (old now : LanePairs) (lanes : List CertLane) (pair : Addr × Addr) → AreOfLanes old lanes
    → ((c l : Addr) → has now c l ≡ (same_pair pair.0 pair.1 c l || has old c l)) → AreOfLanes now (lanes ++ empty_lane pair ∷ [])
pairs_push old now lanes pair of set = λ c l.
    set c l ∙ ap (λ b. same_pair pair.0 pair.1 c l || b) (of c l)
    ∙ ap (λ b. b || has_pair c l lanes) (pair_symm pair.0 pair.1 c l) ∙ sym (has_push c l lanes pair)

-- and where the pairs before it stand behind other lanes
pub pairs_more : (old now : LanePairs) (lanes : List CertLane) (pairs : List (Addr × Addr)) (i : ℕ) (pair : Addr × Addr) → i < length pairs
    → AreOfLanes old (lanes ++ map empty_lane (take i pairs))
    → ((c l : Addr) → has now c l ≡ (same_pair (get_or pairs i pair).0 (get_or pairs i pair).1 c l || has old c l)) → AreOfLanes now (lanes ++ map empty_lane (take (i + 1) pairs))
pairs_more old now lanes pairs i pair within of set =
    subst (AreOfLanes now) (append_assoc lanes (map empty_lane (take i pairs)) (empty_lane (get_or pairs i pair) ∷ []) ∙ ap (λ ls. lanes ++ ls) (sym (map_more pairs i pair within)))
    (pairs_push old now (lanes ++ map empty_lane (take i pairs)) (get_or pairs i pair) of set)

-- lanes at the front are apart where all are
apart_front : (xs ys : List CertLane) → IsDistinct same_lane (xs ++ ys) → IsDistinct same_lane xs
unfolding IsDistinct
apart_front [] ys apart = tt
apart_front (x ∷ xs) ys apart = (others x xs ys apart.0, apart_front xs ys apart.1)
  where
    others : (x : CertLane) (xs ys : List CertLane) → AllByRecursion (λ other. same_lane x other ≡ false) (xs ++ ys) → AllByRecursion (λ other. same_lane x other ≡ false) xs
    others x [] ys all = tt
    others x (y ∷ xs) ys all = (all.0, others x xs ys all.1)

is_other : (x lane : CertLane) (xs : List CertLane) → AllByRecursion (λ other. same_lane x other ≡ false) (xs ++ lane ∷ []) → same_lane x lane ≡ false
is_other x lane [] all = all.0
is_other x lane (y ∷ xs) all = is_other x lane xs all.1

-- a lane of a pair that is there isn't apart from it
not_apart : (lane : CertLane) (xs : List CertLane) → has_pair lane.client lane.listen xs ≡ true → ¬ IsDistinct same_lane (xs ++ lane ∷ [])
unfolding IsDistinct
not_apart lane [] there apart = true≢false (sym there)
not_apart lane (x ∷ xs) there apart =
    not_apart lane xs (sym (ap (λ b. b || has_pair lane.client lane.listen xs) (same_lane_equiv.symm lane x ∙ is_other x lane xs apart.0)) ∙ there) apart.1

module _ (lanes : List CertLane) (pairs : List (Addr × Addr)) (i : ℕ) (pair : Addr × Addr) (within : i < length pairs) where
  abbrev pub next : Addr × Addr
  next = get_or pairs i pair

  abbrev pub so_far : List CertLane
  so_far = lanes ++ map empty_lane (take i pairs)

  grown : lanes ++ map empty_lane (take (i + 1) pairs) ≡ so_far ++ empty_lane next ∷ []
  grown = ap (λ ls. lanes ++ ls) (map_more pairs i pair within) ∙ sym (append_assoc lanes (map empty_lane (take i pairs)) (empty_lane next ∷ []))

  both : (known seen : LanePairs) → AreOfLanes known lanes → AreOfLanes seen (map empty_lane (take i pairs)) → (c l : Addr) → has_pair c l so_far ≡ (has known c l || has seen c l)
  both known seen of other c l = any_append c l lanes (map empty_lane (take i pairs)) ∙ ap (λ b. b || has_pair c l (map empty_lane (take i pairs))) (sym (of c l)) ∙ ap (λ b. has known c l || b) (sym (other c l))

  pub apart_more : (known seen : LanePairs) → AreOfLanes known lanes → AreOfLanes seen (map empty_lane (take i pairs)) → (has known next.0 next.1 || has seen next.0 next.1) ≡ false
      → IsDistinct same_lane so_far → IsDistinct same_lane (lanes ++ map empty_lane (take (i + 1) pairs))
  apart_more known seen of other absent_by apart =
      let absent : has_pair next.0 next.1 so_far ≡ false = both known seen of other next.0 next.1 ∙ absent_by in
      subst (IsDistinct same_lane) (sym grown) (apart_push so_far (empty_lane next) apart absent)

  pub apart_no_more : (known seen : LanePairs) → AreOfLanes known lanes → AreOfLanes seen (map empty_lane (take i pairs)) → (has known next.0 next.1 || has seen next.0 next.1) ≡ true
      → (all : List CertLane) → (rest : List CertLane) → all ≡ (lanes ++ map empty_lane (take (i + 1) pairs)) ++ rest → ¬ IsDistinct same_lane all
  apart_no_more known seen of other there all rest is apart =
      not_apart (empty_lane next) so_far (both known seen of other next.0 next.1 ∙ there)
      (subst (IsDistinct same_lane) grown (apart_front (lanes ++ map empty_lane (take (i + 1) pairs)) rest (subst (IsDistinct same_lane) is apart)))

-- the pairs of lanes are those that they had before a portion's events
pub pairs_with : (n : ℕ) (lanes : List CertLane) (events : List (ℕ × Event)) (client listen : Addr) → has_pair client listen (with_events n lanes events) ≡ has_pair client listen lanes
pairs_with n [] events client listen = refl
pairs_with n (lane ∷ lanes) events client listen = ap (λ b. same_pair client listen lane.client lane.listen || b) (pairs_with (n + 1) lanes events client listen)

pub whole : (lanes : List CertLane) (pairs : List (Addr × Addr)) (n : ℕ) → lanes ++ map empty_lane pairs ≡ (lanes ++ map empty_lane (take n pairs)) ++ map empty_lane (drop n pairs)
whole lanes pairs n =
    ap (λ ps. lanes ++ map empty_lane ps) (sym (take-append-drop n pairs)) ∙ ap (λ ls. lanes ++ ls) (map-append empty_lane (take n pairs) (drop n pairs))
    ∙ sym (append_assoc lanes (map empty_lane (take n pairs)) (map empty_lane (drop n pairs)))

pub pairs_grown : (pairs : LanePairs) (lanes now : List CertLane) (events : List (ℕ × Event)) → now ≡ with_events 0 lanes events → AreOfLanes pairs lanes → AreOfLanes pairs now
pairs_grown pairs lanes now events is of = λ client listen. of client listen ∙ sym (ap (has_pair client listen) is ∙ pairs_with 0 lanes events client listen)

-- with room for them, new pairs that are apart are all that is asked
pub fits_ok : {E : Type 0} (certificate : Certificate) (extension : Extension) (found : Result Bool E) → HasRoom certificate extension
    → IfOk found (λ apart. IsTrue apart ↔ IsDistinct same_lane (certificate.lanes ++ map empty_lane extension.lanes))
    → IfOk found (λ fits. IsTrue fits ↔ Fits certificate extension)
fits_ok certificate extension (Ok apart) room tells = ((λ is. record { room = room; apart = tells.0 is }), (λ fits. tells.1 fits.apart))
fits_ok certificate extension (Err e) room tells = tt
