-- The lanes of a certificate among others, their steps and their tenancies.
use Rattle.std.proofs.Common.{◌≡◌, ◌≤◌, ◌<◌, ◌+◌, ℕ, zero, suc, List, [], ◌∷◌, ◌++◌, length, map, Some, None, refl, sym, ap, ◌∙◌, subst, inl, inr, arith}
use Rattle.std.specs.Prelude.{Contains, slice_get}
use Rattle.std.specs.List.{AllByRecursion}
use Rattle.std.proofs.lemmas.List.Elements.{Contains-append_left, Contains-append_right, Contains-append_cases}
use Rattle.audit_model.specs.declared.certificate.CertLane.{CertLane}
use Rattle.audit_model.specs.declared.sighting.SightId.{SightId}
use Rattle.audit_model.specs.declared.verdict.Tenancy.{Tenancy}
use Rattle.audit_placement.specs.declared.entry.Entry.{Entry}
use Rattle.audit_placement.specs.Entries.{lane_entries, lanes_entries}
use Rattle.audit_server.specs.Placed.{Placed, step_of}
use Rattle.audit_server.specs.Placing.{places, times_placed}
use Rattle.audit_server.specs.Rules.{Rules}
use Rattle.audit_server.specs.Step.{Step}
use Rattle.audit_server.specs.Tenancies.{tenancies_in}
use Rattle.audit_server.specs.Whole.{all_tenancies}
use Rattle.audit_server.proofs.Sorting.{count_cons}
use Rattle.audit_lane.specs.Concluded.{Has, tenancies_of}
use Rattle.audit_lane.specs.Concluded.{tenancies_in as of_judgement}
use Rattle.audit_lane.specs.Content.{Found}
use Rattle.audit_whole.specs.Glued.{placed_of, lanes_from}

abbrev pub placed_lane : ℕ → CertLane → List Placed
placed_lane number lane = map placed_of (lane_entries number lane)

some_is : {X : Type 0} (x y : X) → Some x ≡ Some y → x ≡ y
some_is x y h = cc

pub there_within : {X : Type 0} (xs : List X) (i : ℕ) (x : X) → slice_get xs i ≡ Some x → i < length xs
there_within [] i x h = absurd (let z : None ≡ Some x = h in cc)
there_within (y ∷ ys) zero x h = omega arith
there_within (y ∷ ys) (suc i) x h = let lt = there_within ys i x h in omega (arith, lt)

-- ---- what holds of each

pub all_lanes : (P : List Placed → Type 0) (n : ℕ) (lanes : List CertLane) → ((i m : ℕ) (lane : CertLane) → slice_get lanes i ≡ Some lane → m ≡ n + i → P (placed_lane m lane)) → AllByRecursion P (lanes_from n lanes)
all_lanes P n [] each = tt
all_lanes P n (lane ∷ lanes) each = (each 0 n lane refl (omega arith), all_lanes P (n + 1) lanes (λ i m l h e. each (suc i) m l h (omega (arith, e))))

pub lane_in : (P : List Placed → Type 0) (n i m : ℕ) (lanes : List CertLane) (lane : CertLane) → slice_get lanes i ≡ Some lane → m ≡ n + i → AllByRecursion P (lanes_from n lanes) → P (placed_lane m lane)
lane_in P n i m [] lane h e all = absurd (let z : None ≡ Some lane = h in cc)
lane_in P n zero m (l ∷ lanes) lane h e all =
    let same : m ≡ n = omega (arith, e) in
    subst (λ (k : ℕ). P (placed_lane k lane)) (sym same) (subst (λ (x : CertLane). P (placed_lane n x)) (some_is l lane h) all.0)
lane_in P n (suc i) m (l ∷ lanes) lane h e all = lane_in P (n + 1) i m lanes lane h (omega (arith, e)) all.1

-- ---- counts

abbrev counted : SightId → List Entry → ℕ
counted s es = times_placed s (map step_of (map placed_of es))

count_both : (s : SightId) (xs ys : List Entry) → counted s (xs ++ ys) ≡ counted s xs + counted s ys
count_both s [] ys = omega arith
count_both s (x ∷ xs) ys =
    omega (arith, count_cons (λ (e : Step). places s e.move) (step_of (placed_of x)) (map step_of (map placed_of (xs ++ ys))), count_cons (λ (e : Step). places s e.move) (step_of (placed_of x)) (map step_of (map placed_of xs)), count_both s xs ys)

lane_few : (s : SightId) (n i m : ℕ) (lanes : List CertLane) (lane : CertLane) → slice_get lanes i ≡ Some lane → m ≡ n + i → counted s (lane_entries m lane) ≤ counted s (lanes_entries n lanes)
lane_few s n i m [] lane h e = absurd (let z : None ≡ Some lane = h in cc)
lane_few s n zero m (l ∷ lanes) lane h e =
    let same : m ≡ n = omega (arith, e) in
    let first : counted s (lane_entries m lane) ≡ counted s (lane_entries n l) = ap (λ (k : ℕ). counted s (lane_entries k lane)) same ∙ ap (λ (x : CertLane). counted s (lane_entries n x)) (sym (some_is l lane h)) in
    omega (arith, first, count_both s (lane_entries n l) (lanes_entries (n + 1) lanes))
lane_few s n (suc i) m (l ∷ lanes) lane h e =
    let rest = lane_few s (n + 1) i m lanes lane h (omega (arith, e)) in
    omega (arith, rest, count_both s (lane_entries n l) (lanes_entries (n + 1) lanes))

-- a lane places a sighting no more often than all do
pub few_of_lane : (s : SightId) (i : ℕ) (lanes : List CertLane) (lane : CertLane) (more : List Entry) → slice_get lanes i ≡ Some lane → times_placed s (map step_of (placed_lane i lane)) ≤ times_placed s (map step_of (map placed_of (lanes_entries 0 lanes ++ more)))
few_of_lane s i lanes lane more h = let few = lane_few s 0 i i lanes lane h (omega arith) in omega (arith, few, count_both s (lanes_entries 0 lanes) more)

-- ---- tenancies

-- the lane that a tenancy is of
pub record OfLane (w : Rules) (n : ℕ) (lanes : List CertLane) (t : Tenancy) : Type 0 where
  pub place : ℕ
  pub number : ℕ
  pub lane : CertLane
  pub there : slice_get lanes place ≡ Some lane
  pub is : number ≡ n + place
  pub has : Contains (tenancies_in w (placed_lane number lane)) t

pub lane_of : (w : Rules) (n : ℕ) (lanes : List CertLane) (t : Tenancy) → Contains (all_tenancies w (lanes_from n lanes)) t → OfLane w n lanes t
lane_of w n [] t c = absurd (omega (arith, c.1))
lane_of w n (lane ∷ lanes) t c = elim (Contains-append_cases (tenancies_in w (placed_lane n lane)) (all_tenancies w (lanes_from (n + 1) lanes)) t c) [
  | inl mine ↦ record { place = 0; number = n; lane = lane; there = refl; is = omega arith; has = mine }
  | inr other ↦ (let o = lane_of w (n + 1) lanes t other in record { place = suc o.place; number = o.number; lane = o.lane; there = o.there; is = omega (arith, o.is); has = o.has })
]

pub of_lanes : (w : Rules) (n i m : ℕ) (lanes : List CertLane) (lane : CertLane) (t : Tenancy) → slice_get lanes i ≡ Some lane → m ≡ n + i → Contains (tenancies_in w (placed_lane m lane)) t → Contains (all_tenancies w (lanes_from n lanes)) t
of_lanes w n i m [] lane t h e c = absurd (let z : None ≡ Some lane = h in cc)
of_lanes w n zero m (l ∷ lanes) lane t h e c =
    let same : m ≡ n = omega (arith, e) in
    Contains-append_left (tenancies_in w (placed_lane n l)) (all_tenancies w (lanes_from (n + 1) lanes)) t
    (subst (λ (x : CertLane). Contains (tenancies_in w (placed_lane n x)) t) (sym (some_is l lane h)) (subst (λ (k : ℕ). Contains (tenancies_in w (placed_lane k lane)) t) same c))
of_lanes w n (suc i) m (l ∷ lanes) lane t h e c =
    Contains-append_right (tenancies_in w (placed_lane n l)) (all_tenancies w (lanes_from (n + 1) lanes)) t (of_lanes w (n + 1) i m lanes lane t h (omega (arith, e)) c)

pub in_founds : (founds : List Found) (i : ℕ) (found : Found) (t : Tenancy) → slice_get founds i ≡ Some found → Contains (of_judgement found.outcome) t → Contains (tenancies_of founds) t
in_founds [] i found t h c = absurd (let z : None ≡ Some found = h in cc)
in_founds (f ∷ fs) zero found t h c = Contains-append_left (of_judgement f.outcome) (tenancies_of fs) t (subst (λ (x : Found). Contains (of_judgement x.outcome) t) (sym (some_is f found h)) c)
in_founds (f ∷ fs) (suc i) found t h c = Contains-append_right (of_judgement f.outcome) (tenancies_of fs) t (in_founds fs i found t h c)

pub record OfFound (founds : List Found) (t : Tenancy) : Type 0 where
  pub found : Found
  pub has : Has founds found
  pub of : Contains (of_judgement found.outcome) t

pub found_of : (founds : List Found) (t : Tenancy) → Contains (tenancies_of founds) t → OfFound founds t
found_of [] t c = absurd (omega (arith, c.1))
found_of (f ∷ fs) t c = elim (Contains-append_cases (of_judgement f.outcome) (tenancies_of fs) t c) [
  | inl mine ↦ record { found = f; has = record { place = 0; there = refl }; of = mine }
  | inr other ↦ (let o = found_of fs t other in record { found = o.found; has = record { place = suc o.has.place; there = o.has.there }; of = o.of })
]
