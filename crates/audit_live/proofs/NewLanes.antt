-- The lanes of a certificate that gains lanes and events.
use Rattle.std.proofs.Common.{◌≡◌, ◌+◌, ◌++◌, ◌⊎◌, inl, inr, ℕ, zero, suc, List, [], ◌∷◌, length, map, Option, Some, None, refl, sym, ap, ◌∙◌, subst, arith, append_assoc, append-nil, length-append}
use Rattle.std.specs.Prelude.{Contains, IfSome, option_map, slice_get}
use Rattle.std.specs.List.{AllByRecursion}
use Rattle.std.proofs.lemmas.List.Sums.{sum_by-cons}
use Rattle.std.proofs.lemmas.Option.{none-some, same_Some, slice_get_within}
use Rattle.audit_lane.specs.declared.noted.Arrival.{Arrival}
use Rattle.audit_lane.specs.declared.noted.Departure.{Departure}
use Rattle.audit_lane.specs.Seen.{kept_of}
use Rattle.audit_lane.proofs.Lists.{get_push}
use Rattle.audit_model.specs.declared.address.Addr.{Addr}
use Rattle.audit_model.specs.declared.certificate.Certificate.{Certificate}
use Rattle.audit_model.specs.declared.certificate.CertLane.{CertLane}
use Rattle.audit_model.specs.declared.event.Event.{Event}
use Rattle.audit_model.specs.EventCount.{event_count}
use Rattle.audit_order.specs.Grown.{empty_lane, of_lane, with_events}
use Rattle.audit_prefix.specs.Advance.{StandsByLast}
use Rattle.audit_prefix.specs.Turn.{KnowsHolders, Turn, turns_from, whole}
use Rattle.audit_prefix.proofs.Extending.{cut_events, lanes_by}
use Rattle.audit_rules.specs.Keys.{KeyFor}
use Rattle.audit_server.specs.Placed.{Placed}
use Rattle.audit_sightings.specs.Intake.{Taken}
use Rattle.audit_whole.specs.CaptureRun.{rules_for}
use Rattle.audit_whole.specs.Glued.{all_placed, lanes_from, pair_of_lane}
use Rattle.audit_live.specs.declared.holders.Holders.{Holders}
use Rattle.audit_live.specs.declared.lane.LiveLane.{LiveLane}
use Rattle.audit_live.specs.Chain.{Chain}
use Rattle.audit_live.specs.Holding.{holder_of}
use Rattle.audit_live.specs.Steps.{IsNew}
use Rattle.audit_live.specs.Turn.{AddsLane}
use Rattle.audit_live.specs.Walked.{AreNoted, AreWalked, IsWalked, events_of}
use Rattle.audit_live.proofs.CheckedEnough.{ByLast}
use Rattle.audit_live.proofs.Lists.{get_either, of_map}
use Rattle.audit_live.proofs.OwingSteps.{owes_none}
use Rattle.audit_live.proofs.Outcomes.{turn_of}

-- ---- new lanes

module _ (taken : Taken) (key_for : KeyFor) where
  new_walked : (number : ℕ) (pair : Addr × Addr) (lane : LiveLane) → IsNew number pair lane → IsWalked taken key_for number (empty_lane pair) lane
  new_walked number pair lane new = record {
    keeps = record {
      client = ap (λ s. s.client) new.state.standing;
      listen = ap (λ s. s.listen) new.state.standing;
      came = λ s. ap (option_map (λ (a : Arrival). a.moment)) (new.state.came s);
      first_user = λ s a is. absurd (none-some a (sym (new.state.came s) ∙ is));
      taken = λ s a is. absurd (none-some a (sym (new.state.came s) ∙ is));
      fresh = λ s is. refl;
      since = λ t. ap (option_map (λ (d : Departure). d.arrived)) (new.state.gave t);
      allocation = ap (λ s. s.allocation) new.state.standing;
      runs = ap (λ s. s.tenancy) new.state.standing;
      ended = new.state.ended;
    };
    number' = new.number';
    steps = new.steps;
    checked' = new.checked;
    whole = new.broken;
    owing = owes_none (kept_of lane.state) new.state.owed new.state.gave;
    owes' = new.owes;
  }

  push_walked : (lanes : List CertLane) (lives : List LiveLane) (pair : Addr × Addr) (live : LiveLane) → length lives ≡ length lanes → AreWalked taken key_for lanes lives → IsNew (length lives) pair live
      → AreWalked taken key_for (lanes ++ empty_lane pair ∷ []) (lives ++ live ∷ [])
  push_walked lanes lives pair live count walked new number lane one there one_there = by_places (get_push lanes (empty_lane pair) lane number there) (get_push lives live one number one_there) where
    by_places : (slice_get lanes number ≡ Some lane) ⊎ ((number ≡ length lanes) × (empty_lane pair ≡ lane)) → (slice_get lives number ≡ Some one) ⊎ ((number ≡ length lives) × (live ≡ one)) → IsWalked taken key_for number lane one
    by_places (inl here) (inl one_here) = walked number lane one here one_here
    by_places (inr (last, is)) (inr (one_last, one_is)) =
        subst (λ (n : ℕ). IsWalked taken key_for n lane one) (sym one_last)
        (subst (λ (l : CertLane). IsWalked taken key_for (length lives) l one) is (subst (IsWalked taken key_for (length lives) (empty_lane pair)) one_is (new_walked (length lives) pair live new)))
    by_places (inl here) (inr (one_last, one_is)) = absurd (let within = slice_get_within lanes number lane here in omega (arith, within, one_last, count))
    by_places (inr (last, is)) (inl one_here) = absurd (let within = slice_get_within lives number one one_here in omega (arith, within, last, count))

  -- a lane more for each pair
  pub all_walked : (pairs : List (Addr × Addr)) (lanes : List CertLane) (lives new : List LiveLane) → length lives ≡ length lanes → AreWalked taken key_for lanes lives → Chain AddsLane lives pairs new
      → AreWalked taken key_for (lanes ++ map empty_lane pairs) new × (length new ≡ length (lanes ++ map empty_lane pairs))
  all_walked [] lanes lives new count walked chain =
      subst (λ (ls : List CertLane). AreWalked taken key_for ls new × (length new ≡ length ls)) (sym (append-nil lanes))
      (subst (λ (ls : List LiveLane). AreWalked taken key_for lanes ls × (length ls ≡ length lanes)) (sym chain) (walked, count))
  all_walked (pair ∷ pairs) lanes lives new count walked chain =
      let one : LiveLane = chain.1.0 in
      let mid : chain.0 ≡ lives ++ one ∷ [] = chain.1.2 in
      let walked_then = subst (AreWalked taken key_for (lanes ++ empty_lane pair ∷ [])) (sym mid) (push_walked lanes lives pair one count walked chain.1.1) in
      let count_then : length chain.0 ≡ length (lanes ++ empty_lane pair ∷ []) = omega (arith, ap length mid, length-append lives (one ∷ []), length-append lanes (empty_lane pair ∷ []), count) in
      subst (λ (ls : List CertLane). AreWalked taken key_for ls new × (length new ≡ length ls)) (append_assoc lanes (empty_lane pair ∷ []) (map empty_lane pairs))
      (all_walked pairs (lanes ++ empty_lane pair ∷ []) chain.0 new count_then walked_then chain.2)

-- they have no events
pub few_events : (lanes : List CertLane) (pairs : List (Addr × Addr)) → event_count (lanes ++ map empty_lane pairs) ≡ event_count lanes
few_events [] [] = refl
few_events [] (pair ∷ pairs) = let sum = sum_by-cons (λ (l : CertLane). length l.events) (empty_lane pair) (map empty_lane pairs) in let rest = few_events [] pairs in omega (arith, sum, rest)
few_events (lane ∷ lanes) pairs =
    sum_by-cons (λ (l : CertLane). length l.events) lane (lanes ++ map empty_lane pairs) ∙ ap (λ n. length lane.events + n) (few_events lanes pairs)
    ∙ sym (sum_by-cons (λ (l : CertLane). length l.events) lane lanes)

-- ---- lanes with events more

abbrev pub grown : List (ℕ × Event) → ℕ → CertLane → CertLane
grown events number lane = record { events = lane.events ++ of_lane number events; client = lane.client; listen = lane.listen }

module _ (events : List (ℕ × Event)) where
  grown_by : (n : ℕ) (lanes : List CertLane) (i : ℕ) (new : CertLane) → slice_get (with_events n lanes events) i ≡ Some new → (lane : CertLane) × (slice_get lanes i ≡ Some lane) × (new ≡ grown events (n + i) lane)
  grown_by n [] i new there = absurd (none-some new there)
  grown_by n (lane ∷ lanes) zero new there = (lane, refl, sym (same_Some (grown events n lane) new there) ∙ ap (λ k. grown events k lane) (let same : n ≡ n + 0 = omega arith in same))
  grown_by n (lane ∷ lanes) (suc i) new there =
      let rest = grown_by (n + 1) lanes i new there in
      (rest.0, rest.1, rest.2 ∙ ap (λ k. grown events k rest.0) (let same : n + 1 + i ≡ n + suc i = omega arith in same))

  pub grown_at : (lanes : List CertLane) (number : ℕ) (new : CertLane) → slice_get (with_events 0 lanes events) number ≡ Some new → (lane : CertLane) × (slice_get lanes number ≡ Some lane) × (new ≡ grown events number lane)
  grown_at lanes number new there =
      let found = grown_by 0 lanes number new there in
      (found.0, found.1, found.2 ∙ ap (λ k. grown events k found.0) (let same : 0 + number ≡ number = omega arith in same))

  -- its events are those of its turn
  pub grown_events : (number : ℕ) (lane : CertLane) → events_of number (grown events number lane) ≡ whole (turn_of events number lane)
  grown_events number lane = cut_events (Some (pair_of_lane lane)) number 0 (length lane.events) None None lane.events (of_lane number events) (omega arith)

  turns_all : (P : Turn → Type 0) (n : ℕ) (lanes : List CertLane) → ((i number : ℕ) (lane : CertLane) → number ≡ n + i → slice_get lanes i ≡ Some lane → P (turn_of events number lane)) → AllByRecursion P (turns_from n lanes events)
  turns_all P n [] each = tt
  turns_all P n (lane ∷ lanes) each = (each 0 n lane (omega arith) refl, turns_all P (n + 1) lanes (λ i number one is there. each (suc i) number one (omega (arith, is)) there))

  pub all_turns : (P : Turn → Type 0) (lanes : List CertLane) → ((number : ℕ) (lane : CertLane) → slice_get lanes number ≡ Some lane → P (turn_of events number lane)) → AllByRecursion P (turns_from 0 lanes events)
  all_turns P lanes each = turns_all P 0 lanes (λ i number lane is there. each number lane (ap (slice_get lanes) (let same : number ≡ i = omega (arith, is) in same) ∙ there))

-- ---- what stood before

stands_all : (last : Option ℕ) (certificate : Certificate) → StandsByLast last certificate → AllByRecursion (ByLast last) (all_placed certificate)
stands_all None certificate stands = stands
stands_all (Some horizon) certificate stands = stands

-- what each lane's events have, those of one have
pub lane_has : (P : List Placed → Type 0) (n : ℕ) (lanes : List CertLane) → AllByRecursion P (lanes_from n lanes) → (i number : ℕ) (lane : CertLane) → number ≡ n + i → slice_get lanes i ≡ Some lane → P (events_of number lane)
lane_has P n [] all i number lane is there = absurd (none-some lane there)
lane_has P n (one ∷ lanes) all zero number lane is there =
    subst (λ (l : CertLane). P (events_of number l)) (same_Some one lane there) (subst (λ (k : ℕ). P (events_of k one)) (let same : n ≡ number = omega (arith, is) in same) all.0)
lane_has P n (one ∷ lanes) all (suc i) number lane is there = lane_has P (n + 1) lanes all.1 i number lane (omega (arith, is)) there

empty_by : (P : Placed → Type 0) (pairs : List (Addr × Addr)) (number : ℕ) (lane : CertLane) → Contains (map empty_lane pairs) lane → AllByRecursion P (events_of number lane)
empty_by P pairs number lane c = let one = of_map empty_lane pairs lane c in subst (λ (l : CertLane). AllByRecursion P (events_of number l)) one.1 tt

-- of a lane with those that are new, what was placed before stands by the last horizon
pub stood_by : (last : Option ℕ) (certificate : Certificate) (pairs : List (Addr × Addr)) → StandsByLast last certificate → (number : ℕ) (lane : CertLane) → slice_get (certificate.lanes ++ map empty_lane pairs) number ≡ Some lane
    → AllByRecursion (ByLast last) (events_of number lane)
stood_by last certificate pairs stands number lane there = elim (get_either certificate.lanes (map empty_lane pairs) number lane there) [
  | inl old ↦ lane_has (AllByRecursion (ByLast last)) 0 certificate.lanes (lanes_by (ByLast last) certificate (stands_all last certificate stands)).0 number number lane (omega arith) old
  | inr new ↦ empty_by (ByLast last) pairs number lane new
]

-- and the notes are right of those that are new
pub noted_with : (taken : Taken) (key_for : KeyFor) (last : Option ℕ) (lanes : List CertLane) (pairs : List (Addr × Addr)) (holders : Holders) → AreNoted taken key_for last lanes holders
    → (number : ℕ) (lane : CertLane) → slice_get (lanes ++ map empty_lane pairs) number ≡ Some lane → IfSome last (λ horizon. KnowsHolders (rules_for taken key_for) horizon (holder_of holders) (events_of number lane))
noted_with taken key_for None lanes pairs holders noted number lane there = tt
noted_with taken key_for (Some horizon) lanes pairs holders noted number lane there = elim (get_either lanes (map empty_lane pairs) number lane there) [
  | inl old ↦ noted number lane old
  | inr new ↦ empty_known (of_map empty_lane pairs lane new)
] where
  empty_known : (pair : Addr × Addr) × (empty_lane pair ≡ lane) → KnowsHolders (rules_for taken key_for) horizon (holder_of holders) (events_of number lane)
  empty_known (pair, is) = subst (λ (l : CertLane). KnowsHolders (rules_for taken key_for) horizon (holder_of holders) (events_of number l)) is (λ r runs over. absurd (none-some r runs))
