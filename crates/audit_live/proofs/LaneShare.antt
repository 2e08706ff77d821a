-- Of the steps of all lanes, those of one.
use Rattle.std.proofs.Common.{◌≡◌, ◌<◌, ◌≤◌, inl, inr, ℕ, Bool, true, false, cond, ◌==◌, List, [], ◌∷◌, length, map, Option, Some, refl, sym, ap, ◌∙◌, subst, arith, length-set}
use Rattle.std.specs.Prelude.{Contains, slice_get}
use Rattle.std.specs.List.{filter}
use Rattle.std.proofs.lemmas.Bool.{eq-eqb, eqb-true}
use Rattle.std.proofs.lemmas.Option.{same_Some, slice_get_within}
use Rattle.audit_model.specs.declared.event.Event.{Event}
use Rattle.audit_model.specs.declared.verdict.Breach.{Breach}
use Rattle.audit_order.specs.Grown.{of_lane}
use Rattle.audit_placement.proofs.Tables.{get_set}
use Rattle.audit_rules.specs.Keys.{KeyFor}
use Rattle.audit_sightings.specs.Intake.{Taken}
use Rattle.audit_live.specs.declared.lane.LiveLane.{LiveLane}
use Rattle.audit_live.specs.declared.lanes.LiveLanes.{LiveLanes}
use Rattle.audit_live.specs.Chain.{Chain}
use Rattle.audit_live.specs.Steps.{Steps}
use Rattle.audit_live.specs.Turn.{Shown, StepsIn}
use Rattle.audit_live.proofs.LaneWalk.{LaneStep, founds}
use Rattle.audit_live.proofs.Lists.{contains_cases, contains_head, contains_none, contains_tail}

abbrev pub numbered_as : ℕ → List Shown → List Shown
numbered_as number shown = filter (λ (one : Shown). one.number == number) shown

abbrev pub event_of : Shown → ℕ × Event
event_of one = (one.number, one.event)

pub events_numbered : (number : ℕ) (shown : List Shown) → map (λ (one : Shown). one.event) (numbered_as number shown) ≡ of_lane number (map event_of shown)
events_numbered number [] = refl
events_numbered number (one ∷ shown) =
    elim (one.number == number) as (λ b. map (λ (one : Shown). one.event) (cond b (one ∷ numbered_as number shown) (numbered_as number shown))
    ≡ map (λ (e : ℕ × Event). e.1) (cond b (event_of one ∷ filter (λ (e : ℕ × Event). e.0 == number) (map event_of shown)) (filter (λ (e : ℕ × Event). e.0 == number) (map event_of shown)))) [
      | true ↦ ap (λ es. one.event ∷ es) (events_numbered number shown)
      | false ↦ events_numbered number shown
    ]

pub few_numbered : (number : ℕ) (shown : List Shown) → length (numbered_as number shown) ≤ length shown
few_numbered number [] = omega arith
few_numbered number (one ∷ shown) =
    let rest = few_numbered number shown in
    elim (one.number == number) as (λ b. length (cond b (one ∷ numbered_as number shown) (numbered_as number shown)) ≤ length (one ∷ shown)) [ true ↦ omega (arith, rest) | false ↦ omega (arith, rest) ]

pub founds_there : (number : ℕ) (shown : List Shown) (found : Option Breach) → Contains (founds (numbered_as number shown)) found → Contains (founds shown) found
founds_there number [] found c = c
founds_there number (one ∷ shown) found c = by_number (one.number == number) (founds_there number shown found) c where
  by_number : (b : Bool) → (Contains (founds (numbered_as number shown)) found → Contains (founds shown) found) → Contains (founds (cond b (one ∷ numbered_as number shown) (numbered_as number shown))) found
      → Contains (founds (one ∷ shown)) found
  by_number true rest c = elim (contains_cases one.found found (founds (numbered_as number shown)) c) [
    | inl is ↦ subst (Contains (founds (one ∷ shown))) is (contains_head one.found (founds shown))
    | inr there ↦ contains_tail one.found found (founds shown) (rest there)
  ]
  by_number false rest c = contains_tail one.found found (founds shown) (rest c)

module _ (taken : Taken) (key_for : KeyFor) where
  steps_length : (old new : LiveLanes) (one : Shown) → StepsIn taken key_for old one new → length new.lanes.items ≡ length old.lanes.items
  steps_length old new one step = ap length step.lanes ∙ length-set old.lanes.items one.number step.is

  pub all_length : (shown : List Shown) (old new : LiveLanes) → Chain (StepsIn taken key_for) old shown new → length new.lanes.items ≡ length old.lanes.items
  all_length [] old new chain = ap (λ (l : LiveLanes). length l.lanes.items) chain
  all_length (one ∷ shown) old new chain = all_length shown chain.0 new chain.2 ∙ steps_length old chain.0 one chain.1

  pub all_holders : (shown : List Shown) (old new : LiveLanes) → Chain (StepsIn taken key_for) old shown new → new.holders ≡ old.holders
  all_holders [] old new chain = ap (λ (l : LiveLanes). l.holders) chain
  all_holders (one ∷ shown) old new chain = all_holders shown chain.0 new chain.2 ∙ chain.1.holders

  -- a breach is shown by one of the lanes
  pub shown_in : (shown : List Shown) (old new : LiveLanes) → Chain (StepsIn taken key_for) old shown new → (found : Option Breach) → Contains (founds shown) found
      → (number : ℕ) × (number < length old.lanes.items) × Contains (founds (numbered_as number shown)) found
  shown_in [] old new chain found c = absurd (contains_none found c)
  shown_in (one ∷ shown) old new chain found c = elim (contains_cases one.found found (founds shown) c) [
    | inl is ↦ (
      one.number,
      slice_get_within old.lanes.items one.number chain.1.was chain.1.there,
      subst (λ b. Contains (founds (cond b (one ∷ numbered_as one.number shown) (numbered_as one.number shown))) found) (sym (eq-eqb one.number one.number refl))
          (subst (Contains (one.found ∷ founds (numbered_as one.number shown))) is (contains_head one.found (founds (numbered_as one.number shown)))),
    )
    | inr there ↦
        let rest = shown_in shown chain.0 new chain.2 found there in
        (rest.0, subst (λ n. rest.0 < n) (steps_length old chain.0 one chain.1) rest.1, with_one rest.0 (one.number == rest.0) rest.2)
  ] where
    with_one : (number : ℕ) (b : Bool) → Contains (founds (numbered_as number shown)) found → Contains (founds (cond b (one ∷ numbered_as number shown) (numbered_as number shown))) found
    with_one number true c = contains_tail one.found found (founds (numbered_as number shown)) c
    with_one number false c = c

  -- the lane of a number goes by its own steps
  abbrev pub Leads : ℕ → LiveLanes → LiveLane → List Shown → Type 0
  Leads number new was shown = (is : LiveLane) × (slice_get new.lanes.items number ≡ Some is) × Chain (LaneStep taken key_for) was shown is

  module _ (number : ℕ) (one : Shown) (shown : List Shown) (old mid new : LiveLanes) (was : LiveLane) (there : slice_get old.lanes.items number ≡ Some was) (step : StepsIn taken key_for old one mid) where
    then_there : (b : Bool) → (one.number == number) ≡ b → slice_get mid.lanes.items number ≡ cond b (Some step.is) (slice_get old.lanes.items number)
    then_there b same =
        ap (λ xs. slice_get xs number) step.lanes
        ∙ get_set old.lanes.items one.number number step.is (slice_get_within old.lanes.items one.number step.was step.there)
        ∙ ap (λ c. cond c (Some step.is) (slice_get old.lanes.items number)) same

    leads_on : ((is : LiveLane) → slice_get mid.lanes.items number ≡ Some is → Leads number new is (numbered_as number shown)) → (b : Bool) → (one.number == number) ≡ b
        → Leads number new was (cond b (one ∷ numbered_as number shown) (numbered_as number shown))
    leads_on go true same =
        let here : step.was ≡ was = same_Some step.was was (sym step.there ∙ ap (slice_get old.lanes.items) (eqb-true one.number number same) ∙ there) in
        let rest = go step.is (then_there true same) in
        (rest.0, rest.1, (step.is, subst (λ (l : LiveLane). Steps taken key_for l one.event step.is one.found) here step.steps, rest.2))
    leads_on go false same = go was (then_there false same ∙ there)

  pub chain_of : (number : ℕ) (shown : List Shown) (old new : LiveLanes) (was : LiveLane) → slice_get old.lanes.items number ≡ Some was → Chain (StepsIn taken key_for) old shown new → Leads number new was (numbered_as number shown)
  chain_of number [] old new was there chain = (was, ap (λ (l : LiveLanes). slice_get l.lanes.items number) chain ∙ there, refl)
  chain_of number (one ∷ shown) old new was there chain =
      leads_on number one shown old chain.0 new was there chain.1 (λ is at. chain_of number shown chain.0 new is at chain.2) (one.number == number) refl
