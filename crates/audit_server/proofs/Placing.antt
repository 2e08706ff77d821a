-- Where sightings are placed once and no lane owes, each sighting has its lane.
use Rattle.std.proofs.Common.{◌≡◌, ◌≢◌, ◌≤◌, ◌⊎◌, inl, inr, ℕ, zero, suc, Bool, true, false, Option, Some, None, List, [], ◌∷◌, ◌++◌, cond, refl, sym, ◌∙◌, ap, subst, arith, ◌==◌, map}
use Rattle.std.specs.List.{AllByRecursion, slice_get, IsDistinct}
use Rattle.std.proofs.lemmas.Bool.{eq-eqb, cond-true}
use Rattle.audit_model.specs.declared.sighting.SightId.{SightId}
use Rattle.audit_model.proofs.Sames.{sight_true, sight_same, client_same}
use Rattle.audit_model.specs.Sames.{same_sight, same_client}
use Rattle.audit_model.specs.declared.pair.Pair.{Pair}
use Rattle.audit_server.specs.Homes.{NamesAtHome, StandAtHome, AreDistinct}
use Rattle.audit_server.specs.Placed.{Placed, step_of, Runs, led, state_after, of_lane}
use Rattle.audit_server.specs.Placing.{places, times_placed}
use Rattle.audit_server.specs.Rules.{Rules}
use Rattle.audit_server.specs.Run.{InTime, Allowed}
use Rattle.audit_server.specs.State.{State, at_first, after}
use Rattle.audit_server.specs.Step.{Step, Move, In, Act, Out}
use Rattle.audit_server.proofs.Whole.{all_of_splits, all_of_lane}
use Rattle.audit_server.proofs.Sorting.{count_cons}

-- the lane in which a sighting comes in or leaves
abbrev pub placed_lane : List Placed → SightId → ℕ
placed_lane [] s = 0
placed_lane (e ∷ es) s = cond (places s e.move) e.at.lane (placed_lane es s)

pub one_if : (b : Bool) → b ≡ true → cond {A = ℕ} b 1 0 ≡ 1
one_if true h = refl
one_if false h = cc

count_in : (s : SightId) (p : List Placed) (e : Placed) (q : List Placed) → places s e.move ≡ true → 1 ≤ times_placed s (map step_of (p ++ e ∷ q))
count_in s [] e q h = let c = one_if (places s e.move) h in omega (arith, count_cons (λ (d : Step). places s d.move) (step_of e) (map step_of q))
count_in s (x ∷ p) e q h = omega (arith, count_cons (λ (d : Step). places s d.move) (step_of x) (map step_of (p ++ e ∷ q)), count_in s p e q h)

placed_lane_at : (s : SightId) (p : List Placed) (e : Placed) (q : List Placed) → times_placed s (map step_of (p ++ e ∷ q)) ≤ 1 → places s e.move ≡ true → placed_lane (p ++ e ∷ q) s ≡ e.at.lane
placed_lane_at s [] e q n h = cond-true (places s e.move) e.at.lane (placed_lane q s) h
placed_lane_at s (x ∷ p) e q n h = elim (places s x.move) as (λ b. places s x.move ≡ b → cond b x.at.lane (placed_lane (p ++ e ∷ q) s) ≡ e.at.lane) [
  | true ↦ λ k. let c = one_if (places s x.move) k in absurd (omega (arith, count_cons (λ (d : Step). places s d.move) (step_of x) (map step_of (p ++ e ∷ q)), count_in s p e q h))
  | false ↦ λ k. placed_lane_at s p e q (omega (arith, count_cons (λ (d : Step). places s d.move) (step_of x) (map step_of (p ++ e ∷ q)))) h
] refl

-- each placement of a step is in the step's lane
abbrev pub PlacesAt : (SightId → ℕ) → ℕ → Move → Type 0
PlacesAt home lane move = (s : SightId) → places s move ≡ true → home s ≡ lane

pub placed_at : (steps : List Placed) → ((s : SightId) → times_placed s (map step_of steps) ≤ 1) → AllByRecursion (λ (e : Placed). PlacesAt (placed_lane steps) e.at.lane e.move) steps
placed_at steps n = all_of_splits (λ (e : Placed). PlacesAt (placed_lane steps) e.at.lane e.move) steps (λ p e q h s k.
    subst (λ (xs : List Placed). placed_lane xs s ≡ e.at.lane) h (placed_lane_at s p e q (subst (λ (xs : List Placed). times_placed s (map step_of xs) ≤ 1) (sym h) (n s)) k))

-- ---- in a lane that is a run and owes nothing, an act names what is placed there

came : (w : Rules) (x : Option ℕ) (moment : ℕ) → InTime w x moment → x ≢ None
came w None moment h e = h
came w (Some m) moment h e = absurd (let k : Some m ≡ None = e in cc)

module _ (w : Rules) (home : SightId → ℕ) (lane : ℕ) where
  -- what is owed leaves
  leaves_by : (t : SightId) (st : State) (moment : ℕ) (move : Move) → Allowed w st (record { moment = moment; move = move }) → PlacesAt home lane move → st.owed t ≢ None →
      (home t ≡ lane) ⊎ ((after w st (record { moment = moment; move = move })).owed t ≢ None)
  leaves_by t st moment (In s) a p o = inr o
  leaves_by t st moment (Act c x y) a p o = inr (elim (same_sight t y) as (λ b. cond b (st.waiting x) (st.owed t) ≢ None) [ true ↦ came w (st.waiting x) moment a.may.0 | false ↦ o ])
  leaves_by t st moment (Out y) a p o = elim (same_sight t y) as (λ b. same_sight t y ≡ b → (home t ≡ lane) ⊎ (cond b None (st.owed t) ≢ None)) [
    | true ↦ λ q. inl (ap home (sight_true t y q) ∙ p y (sight_same y y refl))
    | false ↦ λ q. inr o
  ] refl

  leaves : (t : SightId) (es : List Placed) (st : State) → Runs w st es → AllByRecursion (λ (e : Placed). PlacesAt home lane e.move) es → (led w st es).owed t ≡ None → st.owed t ≢ None → home t ≡ lane
  leaves t [] st r p n o = absurd (o n)
  leaves t (e ∷ es) st r p n o = elim (leaves_by t st e.at.key.moment e.move r.0 p.0 o) [
    | inl h ↦ h
    | inr k ↦ leaves t es (after w st (step_of e)) r.1 p.1 n k
  ]

  names : (st : State) (moment : ℕ) (move : Move) (es : List Placed) → Allowed w st (record { moment = moment; move = move }) → PlacesAt home lane move → ((s : SightId) → st.waiting s ≢ None → home s ≡ lane) →
      Runs w (after w st (record { moment = moment; move = move })) es → AllByRecursion (λ (e : Placed). PlacesAt home lane e.move) es → ((t : SightId) → (led w (after w st (record { moment = moment; move = move })) es).owed t ≡ None) →
      NamesAtHome home lane move × ((s : SightId) → (after w st (record { moment = moment; move = move })).waiting s ≢ None → home s ≡ lane)
  names st moment (In x) es a p wait r ps n = (
    p x (sight_same x x refl),
    λ s k. elim (same_sight s x) as (λ b. same_sight s x ≡ b → cond b (Some moment) (st.waiting s) ≢ None → home s ≡ lane) [
      | true ↦ λ q j. ap home (sight_true s x q) ∙ p x (sight_same x x refl)
      | false ↦ λ q j. wait s j
    ] refl k,
  )
  names st moment (Act c x y) es a p wait r ps n = (
    (wait x (came w (st.waiting x) moment a.may.0), leaves y es (after w st (record { moment = moment; move = Act c x y })) r ps (n y) (λ e. came w (st.waiting x) moment a.may.0 (sym (cond-true (same_sight y y) (st.waiting x) (st.owed y) (sight_same y y refl)) ∙ e))),
    λ s k. elim (same_sight s x) as (λ b. cond b None (st.waiting s) ≢ None → home s ≡ lane) [ true ↦ λ j. absurd (j refl) | false ↦ λ j. wait s j ] k,
  )
  names st moment (Out y) es a p wait r ps n = (p y (sight_same y y refl), wait)

  pub all_names : (es : List Placed) (st : State) → Runs w st es → AllByRecursion (λ (e : Placed). PlacesAt home lane e.move) es → ((s : SightId) → st.waiting s ≢ None → home s ≡ lane) → ((t : SightId) → (led w st es).owed t ≡ None) →
      AllByRecursion (λ (e : Placed). NamesAtHome home lane e.move) es
  all_names [] st r p wait n = tt
  all_names (e ∷ es) st r p wait n =
      let k = names st e.at.key.moment e.move es r.0 p.0 wait r.1 p.1 n in
      (k.0, all_names es (after w st (step_of e)) r.1 p.1 k.1 n)

-- what holds of each lane's steps holds of all
pub from_lanes : (P : ℕ → Placed → Type 0) (steps : List Placed) → ((lane : ℕ) → AllByRecursion (P lane) (of_lane lane steps)) → AllByRecursion (λ (e : Placed). P e.at.lane e) steps
from_lanes P [] f = tt
from_lanes P (e ∷ es) f = (
  (subst (AllByRecursion (P e.at.lane)) (cond-true (e.at.lane == e.at.lane) (e ∷ of_lane e.at.lane es) (of_lane e.at.lane es) (eq-eqb e.at.lane e.at.lane refl)) (f e.at.lane)).0,
  from_lanes P es (λ lane. elim (e.at.lane == lane) as (λ b. AllByRecursion (P lane) (cond b (e ∷ of_lane lane es) (of_lane lane es)) → AllByRecursion (P lane) (of_lane lane es)) [ true ↦ λ h. h.1 | false ↦ λ h. h ] (f lane)),
)

-- lanes that are runs and owe nothing, with each sighting placed at most once: each sighting has its lane
pub homes : (w : Rules) (steps : List Placed) → ((s : SightId) → times_placed s (map step_of steps) ≤ 1) → ((lane : ℕ) → Runs w at_first (of_lane lane steps)) → ((lane : ℕ) (t : SightId) → (state_after w (of_lane lane steps)).owed t ≡ None) → StandAtHome (placed_lane steps) steps
homes w steps n runs none =
    from_lanes (λ lane e. NamesAtHome (placed_lane steps) lane e.move) steps (λ lane.
    all_names w (placed_lane steps) lane (of_lane lane steps) at_first (runs lane)
    (all_of_lane (λ m e. PlacesAt (placed_lane steps) m e.move) lane steps (placed_at steps n)) (λ s k. absurd (k refl)) (none lane))

-- ---- no two lanes have one pair

got : {A : Type 0} (P : A → Type 0) (xs : List A) (i : ℕ) (y : A) → AllByRecursion P xs → slice_get xs i ≡ Some y → P y
got P [] i y h e = absurd (let k : None ≡ Some y = e in cc)
got P (x ∷ xs) zero y h e = let k : x ≡ y = cc in subst P k h.0
got P (x ∷ xs) (suc i) y h e = got P xs i y h.1 e

pub distinct_places : (xs : List Pair) → IsDistinct same_client xs → AreDistinct (slice_get xs)
unfolding IsDistinct
distinct_places [] d i j c h k = absurd (let z : None ≡ Some c = h in cc)
distinct_places (x ∷ xs) d zero zero c h k = refl
distinct_places (x ∷ xs) d zero (suc j) c h k = let e : x ≡ c = cc in let f : same_client x c ≡ false = got (λ y. same_client x y ≡ false) xs j c d.0 k in absurd (let t = client_same x c e in let m : true ≡ false = sym t ∙ f in cc)
distinct_places (x ∷ xs) d (suc i) zero c h k = let e : x ≡ c = cc in let f : same_client x c ≡ false = got (λ y. same_client x y ≡ false) xs i c d.0 h in absurd (let t = client_same x c e in let m : true ≡ false = sym t ∙ f in cc)
distinct_places (x ∷ xs) d (suc i) (suc j) c h k = ap suc (distinct_places xs d.1 i j c h k)
