-- What the lanes of a turn show is the least outcome of their walks.
use Rattle.std.proofs.Common.{◌≡◌, ◌+◌, ◌<◌, ◌≤◌, inl, inr, ℕ, zero, suc, List, [], ◌∷◌, length, map, Option, Some, None, refl, sym, ap, ◌∙◌, subst, arith}
use Rattle.std.specs.Prelude.{Contains, slice_get}
use Rattle.std.proofs.lemmas.List.{length-map}
use Rattle.std.proofs.lemmas.List.Sums.{sum_by-cons}
use Rattle.std.proofs.lemmas.Option.{none-some, same_Some, slice_get_within}
use Rattle.audit_model.specs.declared.certificate.CertLane.{CertLane}
use Rattle.audit_model.specs.declared.event.Event.{Event}
use Rattle.audit_model.specs.declared.verdict.Breach.{Breach}
use Rattle.audit_model.specs.EventCount.{event_count}
use Rattle.audit_model.specs.Least.{IsLeast}
use Rattle.audit_model.proofs.LeastBreach.{least_same}
use Rattle.audit_order.specs.Grown.{of_lane}
use Rattle.audit_placement.specs.Entries.{entries_from, lane_entries}
use Rattle.audit_prefix.specs.Breaches.{ForEachTurn, LeastOf, OutcomeOfTurn}
use Rattle.audit_prefix.specs.Turn.{Turn, more_of, turns_from, whole}
use Rattle.audit_prefix.specs.Walk.{Memory, Walks, nothing_yet, remembered_all}
use Rattle.audit_prefix.proofs.Covering.{remembered_cut}
use Rattle.audit_rules.specs.Keys.{KeyFor}
use Rattle.audit_sightings.specs.Intake.{AreNumbered, Taken}
use Rattle.audit_server.specs.Placed.{Placed}
use Rattle.audit_whole.specs.CaptureRun.{rules_for}
use Rattle.audit_whole.specs.Glued.{pair_of_lane, placed_of}
use Rattle.audit_live.specs.declared.lane.LiveLane.{LiveLane}
use Rattle.audit_live.specs.declared.lanes.LiveLanes.{LiveLanes}
use Rattle.audit_live.specs.Turn.{Shown, Walks as WalksAll}
use Rattle.audit_live.specs.Walked.{AreWalked, IsAt, events_of, memory_of}
use Rattle.audit_live.proofs.LaneShare.{chain_of, event_of, events_numbered, few_numbered, founds_there, numbered_as, shown_in}
use Rattle.audit_live.proofs.LaneWalk.{founds, lane_walks, placed_in}
use Rattle.audit_live.proofs.Lists.{contains_cases, contains_head, contains_none, contains_tail, there_is}

-- the turn of a lane
abbrev pub turn_of : List (ℕ × Event) → ℕ → CertLane → Turn
turn_of events number lane = record { before = map placed_of (lane_entries number lane); more = more_of number lane events }

pub few_in_lane : (lanes : List CertLane) (i : ℕ) (lane : CertLane) → slice_get lanes i ≡ Some lane → length lane.events ≤ event_count lanes
few_in_lane [] i lane there = absurd (none-some lane there)
few_in_lane (one ∷ lanes) zero lane there =
    let same = ap (λ (l : CertLane). length l.events) (same_Some one lane there) in
    let sum = sum_by-cons (λ (l : CertLane). length l.events) one lanes in
    omega (arith, same, sum)
few_in_lane (one ∷ lanes) (suc i) lane there =
    let rest = few_in_lane lanes i lane there in
    let sum = sum_by-cons (λ (l : CertLane). length l.events) one lanes in
    omega (arith, rest, sum)

-- the lane after the turn, where no lane broke
abbrev pub IsAfter : Taken → KeyFor → List (ℕ × Event) → ℕ → CertLane → LiveLane → Type 0
IsAfter taken key_for events number lane live =
    IsAt (pair_of_lane lane) number (length lane.events + length (of_lane number events)) (remembered_all (rules_for taken key_for) nothing_yet (whole (turn_of events number lane)))
    (length (memory_of taken key_for number lane).ended) live

module _ (taken : Taken) (numbered : AreNumbered taken) (key_for : KeyFor) (lanes : List CertLane) (events : List (ℕ × Event)) (old mid : LiveLanes) (of_lanes : Option Breach)
    (count : length old.lanes.items ≡ length lanes) (walked : AreWalked taken key_for lanes old.lanes.items) (room : event_count lanes + length events ≤ 4294967295) (walks : WalksAll taken key_for old events mid of_lanes) where
  -- what a lane shows in the turn
  record OutcomeOfLane (number : ℕ) (lane : CertLane) : Type 0 where
    pub outcome : Option Breach
    pub of_turn : OutcomeOfTurn taken key_for (turn_of events number lane) outcome
    pub to : (b : Breach) → outcome ≡ Some b → Contains (founds walks.shown) (Some b)
    pub from : (b : Breach) → Contains (founds (numbered_as number walks.shown)) (Some b) → outcome ≡ Some b
    pub live : LiveLane
    pub there : slice_get mid.lanes.items number ≡ Some live
    pub ends : outcome ≡ None → IsAfter taken key_for events number lane live

  its_events : (number : ℕ) → map (λ (one : Shown). one.event) (numbered_as number walks.shown) ≡ of_lane number events
  its_events number = events_numbered number walks.shown ∙ ap (of_lane number) walks.events_are

  outcome_of_lane : (number : ℕ) (lane : CertLane) → slice_get lanes number ≡ Some lane → OutcomeOfLane number lane
  outcome_of_lane number lane there =
      let first = there_is old.lanes.items number (let within = slice_get_within lanes number lane there in omega (arith, within, count)) in
      let chain = chain_of taken key_for number walks.shown old mid first.0 first.1 walks.chain in
      let few = few_in_lane lanes number lane there in
      let fewer = few_numbered number walks.shown in
      let all = ap length walks.events_are in
      let each = length-map walks.shown event_of in
      let m : Memory = memory_of taken key_for number lane in
      let out = lane_walks taken numbered key_for (numbered_as number walks.shown) (pair_of_lane lane) number (length lane.events) None m (length m.ended) first.0 chain.0
      (walked number lane first.0 there first.1) (omega (arith, few, fewer, all, each, room)) chain.2 in
      let more_is = ap (λ es. map placed_of (entries_from (Some (pair_of_lane lane)) number (length lane.events) None es)) (its_events number) in
      let many = sym (length-map (numbered_as number walks.shown) (λ (one : Shown). one.event)) ∙ ap length (its_events number) in
      record {
        outcome = out.outcome;
        of_turn = subst (λ (es : List Placed). Walks taken key_for m es out.outcome) more_is out.walks;
        to = λ b is. founds_there number walks.shown (Some b) (out.to b is);
        from = out.from;
        live = chain.0;
        there = chain.1;
        ends = λ none.
            subst (λ (n : Memory). IsAt (pair_of_lane lane) number (length lane.events + length (of_lane number events)) n (length m.ended) chain.0)
            (ap (remembered_all (rules_for taken key_for) m) more_is ∙ sym (remembered_cut (rules_for taken key_for) (events_of number lane) (more_of number lane events) nothing_yet))
            (subst (λ (n : ℕ). IsAt (pair_of_lane lane) number (length lane.events + n) (remembered_all (rules_for taken key_for) m (placed_in (pair_of_lane lane) number (length lane.events) None (numbered_as number walks.shown))) (length m.ended) chain.0) many
            (out.ends none));
      }

  -- an outcome for each lane
  record Outcomes (n : ℕ) (rest : List CertLane) : Type 0 where
    pub all : List (Option Breach)
    pub each : ForEachTurn taken key_for (turns_from n rest events) all
    pub to : (b : Breach) → Contains all (Some b) → Contains (founds walks.shown) (Some b)
    pub from : (i : ℕ) → i < length rest → (b : Breach) → Contains (founds (numbered_as (n + i) walks.shown)) (Some b) → Contains all (Some b)

  outcomes : (n : ℕ) (rest : List CertLane) → ((i number : ℕ) (lane : CertLane) → number ≡ n + i → slice_get rest i ≡ Some lane → OutcomeOfLane number lane) → Outcomes n rest
  outcomes n [] outcome_at = record { all = []; each = tt; to = λ b c. absurd (contains_none (Some b) c); from = λ i within. absurd (omega (arith, within)) }
  outcomes n (lane ∷ rest) outcome_at =
      let first : OutcomeOfLane n lane = outcome_at 0 n lane (omega arith) refl in
      let others = outcomes (n + 1) rest (λ i number one is there. outcome_at (suc i) number one (omega (arith, is)) there) in
      record {
        all = first.outcome ∷ others.all;
        each = (first.of_turn, others.each);
        to = λ b c. elim (contains_cases first.outcome (Some b) others.all c) [ inl is ↦ first.to b is | inr there ↦ others.to b there ];
        from = λ i. from_lane first.outcome others.all first.from others.from i;
      } where
        from_lane : (outcome : Option Breach) (all : List (Option Breach)) → ((b : Breach) → Contains (founds (numbered_as n walks.shown)) (Some b) → outcome ≡ Some b)
            → ((i : ℕ) → i < length rest → (b : Breach) → Contains (founds (numbered_as (n + 1 + i) walks.shown)) (Some b) → Contains all (Some b))
            → (i : ℕ) → i < length (lane ∷ rest) → (b : Breach) → Contains (founds (numbered_as (n + i) walks.shown)) (Some b) → Contains (outcome ∷ all) (Some b)
        from_lane outcome all here beyond zero within b c =
            let it : outcome ≡ Some b = here b (subst (λ (k : ℕ). Contains (founds (numbered_as k walks.shown)) (Some b)) (omega arith) c) in
            subst (Contains (outcome ∷ all)) it (contains_head outcome all)
        from_lane outcome all here beyond (suc i) within b c =
            contains_tail outcome (Some b) all (beyond i (omega (arith, within)) b (subst (λ (k : ℕ). Contains (founds (numbered_as k walks.shown)) (Some b)) (omega arith) c))

  outcome_from : (i number : ℕ) (lane : CertLane) → number ≡ 0 + i → slice_get lanes i ≡ Some lane → OutcomeOfLane number lane
  outcome_from i number lane is there = outcome_of_lane number lane (ap (slice_get lanes) (let same : number ≡ i = omega (arith, is) in same) ∙ there)

  pub least_of_turns : LeastOf (ForEachTurn taken key_for (turns_from 0 lanes events)) of_lanes
  least_of_turns =
      let o = outcomes 0 lanes outcome_from in
      record {
        outcomes = o.all;
        each = o.each;
        least = least_same (λ b. Contains (founds walks.shown) (Some b)) (λ b. Contains o.all (Some b))
            (λ b c.
            let one = shown_in taken key_for walks.shown old mid walks.chain (Some b) c in
            o.from one.0 (let within = one.1 in omega (arith, within, count)) b (subst (λ (k : ℕ). Contains (founds (numbered_as k walks.shown)) (Some b)) (omega arith) one.2))
            o.to of_lanes walks.least;
      }

  -- where no lane broke, each has come to the end of its events
  pub lane_after : of_lanes ≡ None → (number : ℕ) (lane : CertLane) → slice_get lanes number ≡ Some lane → (live : LiveLane) × (slice_get mid.lanes.items number ≡ Some live) × IsAfter taken key_for events number lane live
  lane_after none number lane there =
      let outcome_at = outcome_of_lane number lane there in
      let silent = subst (IsLeast (λ b. Contains (founds walks.shown) (Some b))) none walks.least in
      (outcome_at.live, outcome_at.there, outcome_at.ends (by_outcome outcome_at.outcome (λ b is. silent b (outcome_at.to b is)))) where
        by_outcome : (o : Option Breach) → ((b : Breach) → o ≡ Some b → ⊥) → o ≡ None
        by_outcome None f = refl
        by_outcome (Some b) f = absurd (f b refl)
