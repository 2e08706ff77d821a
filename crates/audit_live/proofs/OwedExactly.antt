-- What the lanes' numbers sum to is what their walks remember as owing.
use Rattle.std.proofs.Common.{◌≡◌, ◌+◌, ◌≤◌, ℕ, zero, suc, Bool, true, false, cond, not, List, [], ◌∷◌, ◌++◌, length, map, min, Option, Some, None, refl, sym, ap, ◌∙◌, subst, arith, length-append}
use Rattle.std.specs.Prelude.{filter, slice_get, sum_by, vec_len}
use Rattle.std.proofs.lemmas.List.{length-map}
use Rattle.std.proofs.lemmas.List.Sums.{sum_by-cons}
use Rattle.audit_model.specs.declared.certificate.CertLane.{CertLane}
use Rattle.audit_model.specs.declared.event.At.{At}
use Rattle.audit_model.specs.declared.event.Event.{Event}
use Rattle.audit_model.specs.declared.event.Key.{Key}
use Rattle.audit_model.specs.declared.pair.Pair.{Pair}
use Rattle.audit_model.specs.Event.{key_of}
use Rattle.audit_model.specs.EventCount.{event_count}
use Rattle.audit_model.specs.Sames.{same_sight}
use Rattle.audit_placement.specs.Entries.{entries_from, lane_entries}
use Rattle.audit_prefix.specs.Live.{owed_in}
use Rattle.audit_prefix.specs.Walk.{Memory, Owing, nothing_yet, owing_after, remembered, remembered_all}
use Rattle.audit_rules.specs.Keys.{KeyFor}
use Rattle.audit_server.specs.Placed.{Placed}
use Rattle.audit_server.specs.Rules.{Rules}
use Rattle.audit_server.specs.Step.{Move, In, Act, Out}
use Rattle.audit_sightings.specs.Intake.{Taken}
use Rattle.audit_whole.specs.CaptureRun.{rules_for}
use Rattle.audit_whole.specs.Glued.{lanes_from, placed_of}
use Rattle.audit_live.specs.declared.front.Front.{Front}
use Rattle.audit_live.specs.declared.lane.LiveLane.{LiveLane}
use Rattle.audit_live.specs.Knows.{Knows}
use Rattle.audit_live.specs.Walked.{events_of, memory_of}

left_by : {X : Type 0} (keep : X → Bool) (x : X) (xs : List X) → length (filter keep xs) ≤ length xs → (b : Bool) → length (cond b (x ∷ filter keep xs) (filter keep xs)) ≤ length (x ∷ xs)
left_by keep x xs rest true = omega (arith, rest)
left_by keep x xs rest false = omega (arith, rest)

few_left : {X : Type 0} (keep : X → Bool) (xs : List X) → length (filter keep xs) ≤ length xs
few_left keep [] = omega arith
few_left keep (x ∷ xs) = left_by keep x xs (few_left keep xs) (keep x)

-- an event adds one at the most
one_more : (m : Memory) (at : At) (move : Move) → length (owing_after m at move) ≤ length m.owing + 1
one_more m at (In s) = omega arith
one_more m at (Act c s t) = let both = length-append m.owing (record { at = at; sight = s; gives = t } ∷ []) in omega (arith, both)
one_more m at (Out t) = let few = few_left (λ (o : Owing). not (same_sight t o.gives)) m.owing in omega (arith, few)

owing_few : (w : Rules) (m : Memory) (events : List Placed) → length (remembered_all w m events).owing ≤ length m.owing + length events
owing_few w m [] = omega arith
owing_few w m (e ∷ events) = let rest = owing_few w (remembered w m e) events in let one = one_more m e.at e.move in omega (arith, rest, one)

entries_count : (pair : Option Pair) (number place : ℕ) (last : Option Key) (events : List Event) → length (entries_from pair number place last events) ≡ length events
entries_count pair number place last [] = refl
entries_count pair number place last (e ∷ events) = ap suc (entries_count pair number (place + 1) (Some (key_of e)) events)

module _ (taken : Taken) (key_for : KeyFor) where
  lane_few : (number : ℕ) (lane : CertLane) → length (memory_of taken key_for number lane).owing ≤ length lane.events
  lane_few number lane =
      let few = owing_few (rules_for taken key_for) nothing_yet (events_of number lane) in
      let all = length-map (lane_entries number lane) placed_of in
      let each = entries_count (Some (record { client = lane.client; listen = lane.listen })) number 0 None lane.events in
      omega (arith, few, all, each)

  owed_exactly : (n : ℕ) (lanes : List CertLane) (lives : List LiveLane) → length lives ≡ length lanes → event_count lanes ≤ 4294967295
      → ((i number : ℕ) (lane : CertLane) (live : LiveLane) → number ≡ n + i → slice_get lanes i ≡ Some lane → slice_get lives i ≡ Some live → live.owes ≡ min (length (memory_of taken key_for number lane).owing) 4294967295)
      → (sum_by (λ (live : LiveLane). live.owes) lives ≡ owed_in taken key_for (lanes_from n lanes)) × (owed_in taken key_for (lanes_from n lanes) ≤ event_count lanes)
  owed_exactly n [] [] same few each = (refl, omega arith)
  owed_exactly n [] (live ∷ lives) same few each = absurd (omega (arith, same))
  owed_exactly n (lane ∷ lanes) [] same few each = absurd (omega (arith, same))
  owed_exactly n (lane ∷ lanes) (live ∷ lives) same few each =
      let events = sum_by-cons (λ (l : CertLane). length l.events) lane lanes in
      let sum = sum_by-cons (λ (l : LiveLane). l.owes) live lives in
      let here = each 0 n lane live (omega arith) refl refl in
      let least = lane_few n lane in
      let rest = owed_exactly (n + 1) lanes lives (omega (arith, same)) (omega (arith, events, few)) (λ i number one other is there other_there. each (suc i) number one other (omega (arith, is)) there other_there) in
      (omega (arith, sum, here, least, events, few, rest.0), omega (arith, least, events, rest.1))

  -- the reported number of owed departures
  pub owed_of_lanes : (last : Option ℕ) (front : Front) → Knows taken key_for last front → min front.lanes.owed 4294967295 ≡ owed_in taken key_for (lanes_from 0 front.placing.certificate.lanes)
  owed_of_lanes last front knows =
      let many = knows.lanes in
      let ok = front.lanes.lanes.ok in
      let few = front.placing.certificate.few_events in
      let at : (i number : ℕ) (lane : CertLane) (live : LiveLane) → number ≡ 0 + i → slice_get front.placing.certificate.lanes i ≡ Some lane → slice_get front.lanes.lanes.items i ≡ Some live
      → live.owes ≡ min (length (memory_of taken key_for number lane).owing) 4294967295
      = λ i number lane live is there live_there.
      let same : number ≡ i = omega (arith, is) in
      (knows.walked number lane live (ap (slice_get front.placing.certificate.lanes) same ∙ there) (ap (slice_get front.lanes.lanes.items) same ∙ live_there)).owes' in
      let exactly = owed_exactly 0 front.placing.certificate.lanes front.lanes.lanes.items (omega (arith, many, ok)) (omega (arith, few)) at in
      omega (arith, knows.summed.sum, exactly.0, exactly.1, few)
