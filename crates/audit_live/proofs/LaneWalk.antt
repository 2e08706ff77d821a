-- What a lane's steps show in a turn is what its walk meets first.
use Rattle.std.proofs.Common.{◌≡◌, ◌+◌, ◌≤◌, inl, inr, ℕ, true, List, [], ◌∷◌, length, map, min, Option, Some, None, refl, sym, ap, ◌∙◌, subst, arith}
use Rattle.std.specs.Prelude.{Contains}
use Rattle.std.proofs.lemmas.Bool.{true≢false}
use Rattle.std.proofs.lemmas.Option.{none-some}
use Rattle.audit_lane.specs.Content.{Happening, Came, Acted, Went}
use Rattle.audit_lane.specs.Kept.{Terms}
use Rattle.audit_lane.specs.Named.{IsFrom}
use Rattle.audit_lane.specs.Seen.{kept_of, terms_by}
use Rattle.audit_model.specs.declared.event.Event.{Event}
use Rattle.audit_model.specs.declared.event.Event.TheVariants as events
use Rattle.audit_model.specs.declared.event.Key.{Key}
use Rattle.audit_model.specs.declared.pair.Pair.{Pair}
use Rattle.audit_model.specs.declared.rule.Rule.{Rule}
use Rattle.audit_model.specs.declared.sighting.SightId.{SightId}
use Rattle.audit_model.specs.declared.sighting.Sighting.{Sighting}
use Rattle.audit_model.specs.declared.verdict.Breach.{Breach}
use Rattle.audit_model.specs.Event.{key_of}
use Rattle.audit_placement.specs.Entries.{entry_of, entries_from}
use Rattle.audit_prefix.specs.Walk.{Breaks, GoesOn, Memory, Walks, lane_breach, remembered, remembered_all, sight_named}
use Rattle.audit_rules.specs.Keys.{KeyFor}
use Rattle.audit_verdict.specs.Run.{IsKnown, placed_at}
use Rattle.audit_server.specs.Placed.{Placed}
use Rattle.audit_server.specs.Step.{In, Act, Out}
use Rattle.audit_sightings.specs.Intake.{AreNumbered, Taken, sighting_at}
use Rattle.audit_verdict.proofs.Lanes.{all_known}
use Rattle.audit_whole.specs.CaptureRun.{rules_for}
use Rattle.audit_whole.specs.Glued.{placed_of}
use Rattle.audit_whole.proofs.Placement.{in_row}
use Rattle.audit_live.specs.declared.lane.LiveLane.{LiveLane}
use Rattle.audit_live.specs.Chain.{Chain}
use Rattle.audit_live.specs.Owed.{Owes}
use Rattle.audit_live.specs.Remembered.{Remembers}
use Rattle.audit_live.specs.Steps.{IsBroken, IsStepped, Steps}
use Rattle.audit_live.specs.Turn.{Shown}
use Rattle.audit_live.specs.Walked.{IsAt}
use Rattle.audit_live.proofs.Breaking.{stops_on}
use Rattle.audit_live.proofs.Lists.{contains_cases, contains_head, contains_none, contains_tail}
use Rattle.audit_live.proofs.OwingSteps.{owes_count, owes_on}
use Rattle.audit_live.proofs.Remembering.{remembers_on}

-- the events as they stand in their lane, from a place on
abbrev pub placed_in : Pair → ℕ → ℕ → Option Key → List Shown → List Placed
placed_in pair number place last shown = map placed_of (entries_from (Some pair) number place last (map (λ (one : Shown). one.event) shown))

abbrev pub founds : List Shown → List (Option Breach)
founds shown = map (λ (one : Shown). one.found) shown

module _ (taken : Taken) (key_for : KeyFor) where
  abbrev pub LaneStep : LiveLane → Shown → LiveLane → Type 0
  LaneStep old shown new = Steps taken key_for old shown.event new shown.found

  -- what a lane shows, that came to a place and remembers this, by the events from there on
  pub record LaneOutcome (pair : Pair) (number place : ℕ) (last : Option Key) (m : Memory) (checked : ℕ) (shown : List Shown) (new : LiveLane) : Type 0 where
    pub outcome : Option Breach
    pub walks : Walks taken key_for m (placed_in pair number place last shown) outcome
    pub to : (b : Breach) → outcome ≡ Some b → Contains (founds shown) (Some b)
    pub from : (b : Breach) → Contains (founds shown) (Some b) → outcome ≡ Some b
    pub ends : outcome ≡ None → IsAt pair number (place + length shown) (remembered_all (rules_for taken key_for) m (placed_in pair number place last shown)) checked new

module _ (taken : Taken) (numbered : AreNumbered taken) (key_for : KeyFor) where
  same_id : (id : SightId) (s : Sighting) → sighting_at taken id ≡ Some s → s.id ≡ id
  same_id id s at = numbered id.iface id.index s (in_row taken id s at)

  known_from : (event : Event) (happened : Happening) → IsFrom taken event happened → IsKnown (sighting_at taken) happened
  known_from event happened from = (all_known taken numbered (event ∷ []) (happened ∷ []) (from, tt)).0

  step_is : (terms : Terms) (pair : Pair) (place : ℕ) (last : Option Key) (event : Event) (happened : Happening) → IsFrom taken event happened →
      placed_at terms pair place happened ≡ placed_of (entry_of (Some pair) terms.number place last event)
  step_is terms pair place last (events.In sight key) (Came s user at) from =
      let k : at ≡ key = sym from.1 in
      let n : s.id ≡ sight = same_id sight s from.0 in
      λ i. record { at = record { key = k i; lane = terms.number; place = place }; move = In (n i) }
  step_is terms pair place last (events.In sight key) (Acted a l at) from = absurd from
  step_is terms pair place last (events.In sight key) (Went s at) from = absurd from
  step_is terms pair place last (events.Act sight gives key) (Came s user at) from = absurd from
  step_is terms pair place last (events.Act sight gives key) (Acted a l at) from =
      let k : at ≡ key = sym from.2 in
      let n : a.id ≡ sight = same_id sight a from.0 in
      let m : l.id ≡ gives = same_id gives l from.1 in
      λ i. record { at = record { key = k i; lane = terms.number; place = place }; move = Act pair (n i) (m i) }
  step_is terms pair place last (events.Act sight gives key) (Went s at) from = absurd from
  step_is terms pair place last (events.Out sight key) (Came s user at) from = absurd from
  step_is terms pair place last (events.Out sight key) (Acted a l at) from = absurd from
  step_is terms pair place last (events.Out sight key) (Went s at) from =
      let k : at ≡ key = sym from.1 in
      let n : s.id ≡ sight = same_id sight s from.0 in
      λ i. record { at = record { key = k i; lane = terms.number; place = place }; move = Out (n i) }

  -- ---- one step

  module _ (pair : Pair) (number place : ℕ) (last : Option Key) (m : Memory) (checked : ℕ) (old : LiveLane) (at : IsAt pair number place m checked old) (event : Event) (new : LiveLane) where
    abbrev next : Placed
    next = placed_of (entry_of (Some pair) number place last event)

    next_is : (terms : Terms) → terms.number ≡ old.number → (happened : Happening) → IsFrom taken event happened → placed_at terms pair old.steps happened ≡ next
    next_is terms same happened from =
        step_is terms pair old.steps last event happened from
        ∙ ap (λ n. placed_of (entry_of (Some pair) n old.steps last event)) (same ∙ at.number')
        ∙ ap (λ k. placed_of (entry_of (Some pair) number k last event)) at.steps

    step_on : IsStepped taken key_for old event new → place + 1 ≤ 4294967295 →
        GoesOn (rules_for taken key_for) m next.at.key.moment next.move × IsAt pair number (place + 1) (remembered (rules_for taken key_for) m next) checked new
    step_on stepped room =
        let meaning = stepped.goes_on.0 in
        let terms : Terms = terms_by old.number taken.policy meaning.rows in
        let law = remembers_on taken key_for pair old.number old.steps meaning.happens meaning.rows (kept_of old.state) (kept_of new.state) m meaning.named (known_from event meaning.happens meaning.from) at.keeps
        stepped.goes_on.1 stepped.goes_on.2 in
        let both = subst (λ (e : Placed). GoesOn (rules_for taken key_for) m e.at.key.moment e.move × Remembers pair (kept_of new.state) (remembered (rules_for taken key_for) m e))
        (next_is terms refl meaning.happens meaning.from) law in
        let w = rules_for taken key_for in
        let owing = subst (λ (p : ℕ). Owes p (kept_of new.state) (remembered w m next).owing) (let on : old.steps + 1 ≡ place + 1 = omega (arith, at.steps) in on)
        (subst (λ (e : Placed). Owes (old.steps + 1) (kept_of new.state) (remembered w m e).owing) (next_is terms refl meaning.happens meaning.from)
        (owes_on w terms pair old.steps (kept_of old.state) (kept_of new.state) m (subst (λ (p : ℕ). Owes p (kept_of old.state) m.owing) (sym at.steps) at.owing) meaning.happens stepped.goes_on.1 stepped.goes_on.2)) in
        let steps = ap (λ (l : LiveLane). l.steps) stepped.rest in (
          both.0,
          record {
            keeps = both.1;
            number' = ap (λ (l : LiveLane). l.number) stepped.rest ∙ at.number';
            steps = omega (arith, steps, at.steps, room);
            checked' = ap (λ (l : LiveLane). l.checked) stepped.rest ∙ at.checked';
            whole = ap (λ (l : LiveLane). l.broken) stepped.rest ∙ at.whole;
            owing = owing;
            owes' = stepped.owing.2 ∙ ap (λ (n : ℕ). min n 4294967295) (owes_count (place + 1) (kept_of new.state) (remembered w m next).owing stepped.owing.0 owing stepped.owing.1);
          },
        )

    step_stops : (breach : Breach) → IsBroken taken key_for old event new breach →
        (rule : Rule) × Breaks taken key_for m next.at.key.moment next.move rule × (Some breach ≡ Some (lane_breach taken key_for next.at (sight_named taken key_for next.move) rule))
    step_stops breach broken =
        let meaning = broken.stops.0 in
        let terms : Terms = terms_by old.number taken.policy meaning.rows in
        let law = stops_on taken key_for pair old.number old.steps meaning.happens meaning.rows (kept_of old.state) m breach meaning.named (known_from event meaning.happens meaning.from) at.keeps broken.stops.1 in
        subst (λ (e : Placed). (rule : Rule) × Breaks taken key_for m e.at.key.moment e.move rule × (Some breach ≡ Some (lane_breach taken key_for e.at (sight_named taken key_for e.move) rule)))
        (next_is terms refl meaning.happens meaning.from) (law.0, law.1, ap Some law.2)

  -- ---- all steps of a lane

  -- a lane that broke shows no other breach
  silent_step : (one : Shown) (shown : List Shown) (old mid : LiveLane) → old.broken ≡ true → (b : Breach) → Contains (founds (one ∷ shown)) (Some b) → (mid.broken ≡ true → Contains (founds shown) (Some b) → ⊥)
      → (found : Option Breach) → one.found ≡ found → Steps taken key_for old one.event mid found → ⊥
  silent_step one shown old mid broke b c rest None is (inl (still, same)) = elim (contains_cases one.found (Some b) (founds shown) c) [
    | inl here ↦ none-some b (sym is ∙ here)
    | inr there ↦ rest (ap (λ (l : LiveLane). l.broken) same ∙ broke) there
  ]
  silent_step one shown old mid broke b c rest None is (inr stepped) = true≢false (sym broke ∙ stepped.whole)
  silent_step one shown old mid broke b c rest (Some breach) is breaks = true≢false (sym broke ∙ breaks.whole)

  silent : (shown : List Shown) (old new : LiveLane) → old.broken ≡ true → Chain (LaneStep taken key_for) old shown new → (b : Breach) → Contains (founds shown) (Some b) → ⊥
  silent [] old new broke chain b c = contains_none (Some b) c
  silent (one ∷ shown) old new broke chain b c = silent_step one shown old chain.0 broke b c (λ then_broke there. silent shown chain.0 new then_broke chain.2 b there) one.found refl chain.1

  module _ (pair : Pair) (number place : ℕ) (last : Option Key) (m : Memory) (checked : ℕ) (old : LiveLane) (at : IsAt pair number place m checked old) (one : Shown) (shown : List Shown) (mid new : LiveLane)
      (room : place + length (one ∷ shown) ≤ 4294967295) (chain : Chain (LaneStep taken key_for) mid shown new) where
    abbrev this : Placed
    this = placed_of (entry_of (Some pair) number place last one.event)

    abbrev Rest : Type 0
    Rest = IsAt pair number (place + 1) (remembered (rules_for taken key_for) m this) checked mid
        → LaneOutcome taken key_for pair number (place + 1) (Some (key_of one.event)) (remembered (rules_for taken key_for) m this) checked shown new

    walks_step : Rest → (found : Option Breach) → one.found ≡ found → Steps taken key_for old one.event mid found → LaneOutcome taken key_for pair number place last m checked (one ∷ shown) new
    walks_step go None is (inl (broke, same)) = absurd (true≢false (sym broke ∙ at.whole))
    walks_step go None is (inr stepped) =
        let on = step_on pair number place last m checked old at one.event mid stepped (omega (arith, room)) in
        let rest = go on.1 in
        record {
          outcome = rest.outcome;
          walks = inr (on.0, rest.walks);
          to = λ b h. contains_tail one.found (Some b) (founds shown) (rest.to b h);
          from = λ b c. elim (contains_cases one.found (Some b) (founds shown) c) [ inl here ↦ absurd (none-some b (sym is ∙ here)) | inr there ↦ rest.from b there ];
          ends = λ none. subst (λ (k : ℕ). IsAt pair number k (remembered_all (rules_for taken key_for) m (placed_in pair number place last (one ∷ shown))) checked new) (omega arith) (rest.ends none);
        }
    walks_step go (Some breach) is breaks = record {
      outcome = Some breach;
      walks = inl (step_stops pair number place last m checked old at one.event mid breach breaks);
      to = λ b h. subst (λ (o : Option Breach). Contains (one.found ∷ founds shown) o) (is ∙ h) (contains_head one.found (founds shown));
      from = λ b c. elim (contains_cases one.found (Some b) (founds shown) c) [
        | inl here ↦ sym is ∙ here
        | inr there ↦ absurd (silent shown mid new (ap (λ (l : LiveLane). l.broken) breaks.rest) chain b there)
      ];
      ends = λ none. absurd (none-some breach (sym none));
    }

  pub lane_walks : (shown : List Shown) (pair : Pair) (number place : ℕ) (last : Option Key) (m : Memory) (checked : ℕ) (old new : LiveLane) → IsAt pair number place m checked old → place + length shown ≤ 4294967295
      → Chain (LaneStep taken key_for) old shown new → LaneOutcome taken key_for pair number place last m checked shown new
  lane_walks [] pair number place last m checked old new at room chain = record {
    outcome = None;
    walks = refl;
    to = λ b is. absurd (none-some b is);
    from = λ b c. absurd (contains_none (Some b) c);
    ends = λ none. subst (IsAt pair number (place + 0) m checked) (sym chain) (subst (λ (k : ℕ). IsAt pair number k m checked old) (omega arith) at);
  }
  lane_walks (one ∷ shown) pair number place last m checked old new at room chain =
      walks_step pair number place last m checked old at one shown chain.0 new room chain.2
      (λ on. lane_walks shown pair number (place + 1) (Some (key_of one.event)) (remembered (rules_for taken key_for) m (placed_of (entry_of (Some pair) number place last one.event))) checked chain.0 new on (omega (arith, room)) chain.2)
      one.found refl chain.1
