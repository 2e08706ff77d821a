-- In a run, it is one to say that acts and departures meet in lanes, and that each sighting has its lane.
use Rattle.std.proofs.Common.{◌≡◌, ◌≤◌, inl, inr, ℕ, None, List, [], ◌∷◌, ◌++◌, refl, sym, ◌∙◌, ap, subst, map}
use Rattle.std.specs.List.{fold, AllByRecursion}
use Rattle.audit_model.specs.declared.sighting.SightId.{SightId}
use Rattle.audit_model.proofs.Sames.{sight_same}
use Rattle.audit_model.specs.declared.pair.Pair.{Pair}
use Rattle.audit_server.specs.Holding.{AnyOf}
use Rattle.audit_server.specs.Homes.{NamesAtHome, Meets, MeetInLanes, InOneLane}
use Rattle.audit_server.specs.Placed.{Placed, step_of}
use Rattle.audit_server.specs.Placing.{places, times_placed}
use Rattle.audit_server.specs.Rules.{Rules}
use Rattle.audit_server.specs.Run.{RunFrom, IsRun}
use Rattle.audit_server.specs.State.{State, at_first, after}
use Rattle.audit_server.specs.Step.{Step, Move, In, Act, Out}
use Rattle.audit_server.proofs.Orders.{all_right, all_weaker}
use Rattle.audit_server.proofs.Placing.{placed_lane, placed_at, PlacesAt}
use Rattle.audit_server.proofs.Once.{fold_cut, run_cut, splits_all, not_none, came_in, leaves, given_owes}

pub all_two : {A : Type 0} (P Q R : A → Type 0) → ((x : A) → P x → Q x → R x) → (xs : List A) → AllByRecursion P xs → AllByRecursion Q xs → AllByRecursion R xs
all_two P Q R f [] h k = tt
all_two P Q R f (x ∷ xs) h k = (f x h.0 k.0, all_two P Q R f xs h.1 k.1)

any_gives : {G : Type 0} (m : Move) (events : List Placed) → AllByRecursion (λ (d : Placed). d.move ≡ m → G) events → AnyOf (λ (e : Step). e.move ≡ m) (map step_of events) → G
any_gives m [] h k = absurd k
any_gives m (d ∷ es) h (inl k) = h.0 k
any_gives m (d ∷ es) h (inr k) = any_gives m es h.1 k

any_at_right : {A : Type 0} (P : A → Type 0) (xs ys : List A) → AnyOf P ys → AnyOf P (xs ++ ys)
any_at_right P [] ys h = h
any_at_right P (x ∷ xs) ys h = inr (any_at_right P xs ys h)

any_at_left : {A : Type 0} (P : A → Type 0) (xs ys : List A) → AnyOf P xs → AnyOf P (xs ++ ys)
any_at_left P [] ys h = absurd h
any_at_left P (x ∷ xs) ys (inl h) = inl h
any_at_left P (x ∷ xs) ys (inr h) = inr (any_at_left P xs ys h)

map_cut : (p q : List Placed) → map step_of (p ++ q) ≡ map step_of p ++ map step_of q
map_cut [] q = refl
map_cut (e ∷ p) q = ap (λ xs. step_of e ∷ xs) (map_cut p q)

module _ (w : Rules) (events : List Placed) (run : IsRun w (map step_of events)) (once : (s : SightId) → times_placed s (map step_of events) ≤ 1) where
  -- an act's arrival comes in, and its departure leaves
  pub both_there : (p : List Placed) (e : Placed) (q : List Placed) → p ++ e ∷ q ≡ events → (c : Pair) (s t : SightId) → e.move ≡ Act c s t → AnyOf (λ (d : Step). d.move ≡ In s) (map step_of events) × AnyOf (λ (d : Step). d.move ≡ Out t) (map step_of events)
  both_there p e q h c s t is =
      let cut : map step_of events ≡ map step_of p ++ step_of e ∷ map step_of q = sym (ap (map step_of) h) ∙ map_cut p (e ∷ q) in
      let r : RunFrom w at_first (map step_of p ++ step_of e ∷ map step_of q) = subst (λ (l : List Step). RunFrom w at_first l) cut run.runs in
      let from : RunFrom w (fold (after w) at_first (map step_of p)) (step_of e ∷ map step_of q) = run_cut w (map step_of p) (step_of e ∷ map step_of q) at_first r in
      let end : (fold (after w) (after w (fold (after w) at_first (map step_of p)) (step_of e)) (map step_of q)).owed t ≡ None = subst (λ (st : State). st.owed t ≡ None) (ap (fold (after w) at_first) cut ∙ fold_cut w (map step_of p) (step_of e ∷ map step_of q) at_first) (run.nothing_owed t) in (
        subst (AnyOf (λ (d : Step). d.move ≡ In s)) (sym cut) (any_at_left (λ (d : Step). d.move ≡ In s) (map step_of p) (step_of e ∷ map step_of q) (came_in w s (map step_of p) at_first refl (not_none w _ e.at.key.moment ((rw is at from.0.may).0)))),
        subst (AnyOf (λ (d : Step). d.move ≡ Out t)) (sym cut) (any_at_right (λ (d : Step). d.move ≡ Out t) (map step_of p) (step_of e ∷ map step_of q) (inr (leaves w t (map step_of q) (after w (fold (after w) at_first (map step_of p)) (step_of e)) from.1 (given_owes w (fold (after w) at_first (map step_of p)) (step_of e) c s t from.0 is) end))),
      )

  home_of : (p : List Placed) (e : Placed) (q : List Placed) → p ++ e ∷ q ≡ events → AllByRecursion (Meets e) events → PlacesAt (placed_lane events) e.at.lane e.move → (m : Move) → e.move ≡ m → NamesAtHome (placed_lane events) e.at.lane m
  home_of p e q h meets at_e (In s) is = at_e s (ap (places s) is ∙ sight_same s s refl)
  home_of p e q h meets at_e (Act c s t) is =
      let k = both_there p e q h c s t is in (
        any_gives (In s) events (all_two (Meets e) (λ (d : Placed). PlacesAt (placed_lane events) d.at.lane d.move) (λ (d : Placed). d.move ≡ In s → placed_lane events s ≡ e.at.lane) (λ d m pl i. pl s (ap (places s) i ∙ sight_same s s refl) ∙ (m c s t is).0 i) events meets (placed_at events once)) k.0,
        any_gives (Out t) events (all_two (Meets e) (λ (d : Placed). PlacesAt (placed_lane events) d.at.lane d.move) (λ (d : Placed). d.move ≡ Out t → placed_lane events t ≡ e.at.lane) (λ d m pl i. pl t (ap (places t) i ∙ sight_same t t refl) ∙ (m c s t is).1 i) events meets (placed_at events once)) k.1,
      )
  home_of p e q h meets at_e (Out t) is = at_e t (ap (places t) is ∙ sight_same t t refl)

  pub one_lane : MeetInLanes events → InOneLane events
  one_lane meet = (
    placed_lane events,
    splits_all (λ (e : Placed). NamesAtHome (placed_lane events) e.at.lane e.move) events (λ p e q h.
        home_of p e q h
        (all_right (λ (d : Placed). AllByRecursion (Meets d) events) p (e ∷ q) (subst (AllByRecursion (λ (d : Placed). AllByRecursion (Meets d) events)) (sym h) meet)).0
        (all_right (λ (d : Placed). PlacesAt (placed_lane events) d.at.lane d.move) p (e ∷ q) (subst (AllByRecursion (λ (d : Placed). PlacesAt (placed_lane events) d.at.lane d.move)) (sym h) (placed_at events once))).0
        e.move refl),
  )

meets_home : (home : SightId → ℕ) (e d : Placed) → NamesAtHome home e.at.lane e.move → NamesAtHome home d.at.lane d.move → Meets e d
meets_home home e d n k c s t is =
    let a : NamesAtHome home e.at.lane (Act c s t) = subst (NamesAtHome home e.at.lane) is n in (
      λ i. let b : home s ≡ d.at.lane = subst (NamesAtHome home d.at.lane) i k in sym b ∙ a.0,
      λ i. let b : home t ≡ d.at.lane = subst (NamesAtHome home d.at.lane) i k in sym b ∙ a.1,
    )

pub meet_in_lanes : (events : List Placed) → InOneLane events → MeetInLanes events
meet_in_lanes events (home, at_home) = all_weaker (λ (e : Placed). NamesAtHome home e.at.lane e.move) (λ (e : Placed). AllByRecursion (Meets e) events) (λ e n.
    all_weaker (λ (d : Placed). NamesAtHome home d.at.lane d.move) (Meets e) (λ d k. meets_home home e d n k) events at_home) events at_home
