-- A lane's input, as the lane of the certificate that it is of.
use Rattle.std.proofs.Common.{◌≡◌, ◌≢◌, ◌≤◌, ◌+◌, ℕ, cond, List, [], ◌∷◌, map, Option, Some, None, refl, sym, ap, ◌∙◌, arith}
use Rattle.std.specs.List.{AllByRecursion, AllZip}
use Rattle.std.specs.List.Sorted.{IsStrictlySortedBy}
use Rattle.std.specs.declared.cmp.Ordering.TheVariants.{Less}
use Rattle.std.proofs.lemmas.Bool.{cond-true}
use Rattle.audit_model.specs.declared.certificate.CertLane.{CertLane}
use Rattle.audit_model.specs.declared.event.Event.{Event}
use Rattle.audit_model.specs.declared.event.Event.TheVariants as events
use Rattle.audit_model.specs.declared.event.Key.{Key}
use Rattle.audit_model.specs.declared.pair.Pair.{Pair}
use Rattle.audit_model.specs.declared.sighting.SightId.{SightId}
use Rattle.audit_model.specs.declared.sighting.Sighting.{Sighting}
use Rattle.audit_model.specs.Sames.{same_sight}
use Rattle.audit_model.proofs.Sames.{sight_same}
use Rattle.audit_model.specs.Event.{key_of}
use Rattle.audit_placement.specs.Entries.{entry_of, entries_from, lane_entries}
use Rattle.audit_sightings.specs.Intake.{Taken, sighting_at, AreNumbered}
use Rattle.audit_server.specs.Placed.{Placed, Rises, at_cmp, step_of}
use Rattle.audit_server.specs.Placing.{places, times_placed}
use Rattle.audit_server.specs.Step.{Step, In, Act, Out}
use Rattle.audit_server.proofs.Orders.{all_weaker, moment_le}
use Rattle.audit_server.proofs.Sorting.{count_cons}
use Rattle.audit_lane.specs.Content.{Content, Happening, Came, Acted, Went}
use Rattle.audit_lane.specs.Judged.{terms_of}
use Rattle.audit_lane.specs.Kept.{Terms}
use Rattle.audit_lane.specs.Named.{IsFrom, IsInputOf}
use Rattle.audit_lane.specs.Walk.{key_at}
use Rattle.audit_verdict.specs.Run.{pair_in, move_of, placed_at, placed_from, steps_in, IsKnown, PlaceApart, PlacedOnce, MomentsRise}
use Rattle.audit_whole.specs.Glued.{placed_of}
use Rattle.audit_whole.proofs.Placement.{in_row}

module _ (taken : Taken) (numbered : AreNumbered taken) where
  -- a sighting has the name by which it is found
  same_id : (id : SightId) (s : Sighting) → sighting_at taken id ≡ Some s → s.id ≡ id
  same_id id s at = numbered id.iface id.index s (in_row taken id s at)

  known_by : (id : SightId) (s : Sighting) → sighting_at taken id ≡ Some s → sighting_at taken s.id ≡ Some s
  known_by id s at = ap (sighting_at taken) (same_id id s at) ∙ at

  is_known : (event : Event) (happened : Happening) → IsFrom taken event happened → IsKnown (sighting_at taken) happened
  is_known (events.In sight key) (Came s user at) from = known_by sight s from.0
  is_known (events.In sight key) (Acted a l at) from = absurd from
  is_known (events.In sight key) (Went s at) from = absurd from
  is_known (events.Act sight gives key) (Came s user at) from = absurd from
  is_known (events.Act sight gives key) (Acted a l at) from = (known_by sight a from.0, known_by gives l from.1)
  is_known (events.Act sight gives key) (Went s at) from = absurd from
  is_known (events.Out sight key) (Came s user at) from = absurd from
  is_known (events.Out sight key) (Acted a l at) from = absurd from
  is_known (events.Out sight key) (Went s at) from = known_by sight s from.0

  pub all_known : (es : List Event) (hs : List Happening) → AllZip (IsFrom taken) es hs → AllByRecursion (IsKnown (sighting_at taken)) hs
  all_known [] [] from = tt
  all_known [] (h ∷ hs) from = absurd from
  all_known (e ∷ es) [] from = absurd from
  all_known (e ∷ es) (h ∷ hs) from = (is_known e h from.0, all_known es hs from.1)

  -- ---- the same steps

  module _ (terms : Terms) (pair : Pair) where
    step_is : (place : ℕ) (last : Option Key) (event : Event) (happened : Happening) → IsFrom taken event happened →
        placed_at terms pair place happened ≡ placed_of (entry_of (Some pair) terms.number place last event)
    step_is place last (events.In sight key) (Came s user at) from =
        let k : at ≡ key = sym from.1 in
        let n : s.id ≡ sight = same_id sight s from.0 in
        λ i. record { at = record { key = k i; lane = terms.number; place = place }; move = In (n i) }
    step_is place last (events.In sight key) (Acted a l at) from = absurd from
    step_is place last (events.In sight key) (Went s at) from = absurd from
    step_is place last (events.Act sight gives key) (Came s user at) from = absurd from
    step_is place last (events.Act sight gives key) (Acted a l at) from =
        let k : at ≡ key = sym from.2 in
        let n : a.id ≡ sight = same_id sight a from.0 in
        let m : l.id ≡ gives = same_id gives l from.1 in
        λ i. record { at = record { key = k i; lane = terms.number; place = place }; move = Act pair (n i) (m i) }
    step_is place last (events.Act sight gives key) (Went s at) from = absurd from
    step_is place last (events.Out sight key) (Came s user at) from = absurd from
    step_is place last (events.Out sight key) (Acted a l at) from = absurd from
    step_is place last (events.Out sight key) (Went s at) from =
        let k : at ≡ key = sym from.1 in
        let n : s.id ≡ sight = same_id sight s from.0 in
        λ i. record { at = record { key = k i; lane = terms.number; place = place }; move = Out (n i) }

    steps_are : (place : ℕ) (last : Option Key) (es : List Event) (hs : List Happening) → AllZip (IsFrom taken) es hs → placed_from terms pair place hs ≡ map placed_of (entries_from (Some pair) terms.number place last es)
    steps_are place last [] [] from = refl
    steps_are place last [] (h ∷ hs) from = absurd from
    steps_are place last (e ∷ es) [] from = absurd from
    steps_are place last (e ∷ es) (h ∷ hs) from =
        let one = step_is place last e h from.0 in
        let rest = steps_are (place + 1) (Some (key_of e)) es hs from.1 in
        λ i. one i ∷ rest i

  -- the steps of a lane's input are those of the certificate's lane
  pub same_steps : (number : ℕ) (lane : CertLane) (content : Content) → IsInputOf taken number lane content → steps_in content ≡ map placed_of (lane_entries number lane)
  same_steps number lane content input =
      let c = input.client in
      let l = input.listen in
      let pair : pair_in content ≡ record { client = lane.client; listen = lane.listen } = λ i. record { client = c i; listen = l i } in
      steps_are (terms_of content) (pair_in content) 0 None lane.events content.events input.events
      ∙ ap (λ (p : Pair). map placed_of (entries_from (Some p) content.number 0 None lane.events)) pair
      ∙ ap (λ (n : ℕ). map placed_of (entries_from (Some (record { client = lane.client; listen = lane.listen })) n 0 None lane.events)) input.number'

-- ---- each sighting once, and moments in order

module _ (terms : Terms) (pair : Pair) where
  abbrev steps : ℕ → List Happening → List Step
  steps place hs = map step_of (placed_from terms pair place hs)

  abbrev counts : SightId → Happening → ℕ
  counts s h = cond {A = ℕ} (places s (move_of pair h)) 1 0

  one_more : (s : SightId) (place : ℕ) (h : Happening) (hs : List Happening) → times_placed s (steps place (h ∷ hs)) ≡ counts s h + times_placed s (steps (place + 1) hs)
  one_more s place h hs = count_cons (λ (e : Step). places s e.move) (step_of (placed_at terms pair place h)) (steps (place + 1) hs)

  here : (s t : SightId) → s ≡ t → cond {A = ℕ} (same_sight s t) 1 0 ≡ 1
  here s t e = cond-true (same_sight s t) 1 0 (sight_same s t e)

  twice : (s t : SightId) → cond {A = ℕ} (same_sight s t) 1 0 + cond {A = ℕ} (same_sight t t) 1 0 ≤ 1 → s ≢ t
  twice s t few e = omega (arith, few, here s t e, here t t refl)

  apart : (h f : Happening) → ((s : SightId) → counts s h + counts s f ≤ 1) → PlaceApart h f
  apart (Came s user key) (Came t other later) few = twice s.id t.id (few t.id)
  apart (Came s user key) (Acted a l later) few = tt
  apart (Came s user key) (Went t later) few = tt
  apart (Acted a l key) f few = tt
  apart (Went s key) (Came t other later) few = tt
  apart (Went s key) (Acted a l later) few = tt
  apart (Went s key) (Went t later) few = twice s.id t.id (few t.id)

  all_apart : (h : Happening) (place : ℕ) (hs : List Happening) → ((s : SightId) → counts s h + times_placed s (steps place hs) ≤ 1) → AllByRecursion (PlaceApart h) hs
  all_apart h place [] few = tt
  all_apart h place (f ∷ hs) few = (apart h f (λ s. omega (arith, few s, one_more s place f hs)), all_apart h (place + 1) hs (λ s. omega (arith, few s, one_more s place f hs)))

  pub once : (place : ℕ) (hs : List Happening) → ((s : SightId) → times_placed s (steps place hs) ≤ 1) → PlacedOnce hs
  once place [] few = tt
  once place (h ∷ hs) few = (all_apart h (place + 1) hs (λ s. omega (arith, few s, one_more s place h hs)), once (place + 1) hs (λ s. omega (arith, few s, one_more s place h hs)))

  pub rise : (place now : ℕ) (hs : List Happening) → AllByRecursion (λ (e : Placed). now ≤ e.at.key.moment) (placed_from terms pair place hs) → Rises (placed_from terms pair place hs) → MomentsRise now hs
  unfolding IsStrictlySortedBy
  rise place now [] from rises = tt
  rise place now (h ∷ hs) from rises = (
    from.0,
    rise (place + 1) (key_at h).moment hs
        (all_weaker (λ (y : Placed). at_cmp (placed_at terms pair place h).at y.at ≡ Less) (λ (y : Placed). (key_at h).moment ≤ y.at.key.moment) (λ y l. moment_le (placed_at terms pair place h).at y.at l) (placed_from terms pair (place + 1) hs) rises.0)
        rises.1,
  )

  pub from_zero : (place : ℕ) (hs : List Happening) → AllByRecursion (λ (e : Placed). 0 ≤ e.at.key.moment) (placed_from terms pair place hs)
  from_zero place [] = tt
  from_zero place (h ∷ hs) = (omega arith, from_zero (place + 1) hs)
