-- Lanes that gain the events of a portion, one after the other.
use Rattle.std.proofs.Common.{◌≡◌, ◌≢◌, ◌<◌, ℕ, zero, suc, ◌+◌, Bool, true, false, cond, eqb, List, [], ◌∷◌, ◌++◌, length, map, take, get_or, refl, sym, ap, ◌∙◌, append_assoc, append-nil, arith}
use Rattle.std.specs.Prelude.{filter}
use Rattle.std.specs.List.{IsDistinct, AllByRecursion}
use Rattle.std.proofs.lemmas.Bool.{eq-eqb, ne_eqb}
use Rattle.std.proofs.lemmas.List.{map-append, take_more}
use Rattle.std.proofs.lemmas.List.Elements.{filter-append}
use Rattle.std.proofs.lemmas.List.Sums.{sum_by-cons, sum_by-append}
use Rattle.audit_model.specs.declared.address.Addr.{Addr}
use Rattle.audit_model.specs.declared.certificate.CertLane.{CertLane}
use Rattle.audit_model.specs.declared.event.Event.{Event}
use Rattle.audit_model.specs.EventCount.{event_count}
use Rattle.audit_model.specs.Lanes.{same_lane}
use Rattle.audit_order.specs.Grown.{empty_lane, of_lane, with_events}
use Rattle.audit_order.specs.Growing.{with_event}

-- with no event more
pub with_none : (n : ℕ) (lanes : List CertLane) → with_events n lanes [] ≡ lanes
with_none n [] = refl
with_none n (lane ∷ lanes) =
    ap (λ (events : List Event). let now : CertLane = record { events = events; client = lane.client; listen = lane.listen } in now ∷ with_events (n + 1) lanes []) (append-nil lane.events)
    ∙ ap (λ ls. lane ∷ ls) (with_none (n + 1) lanes)

one_of : (n m : ℕ) (event : Event) (same : Bool) → eqb m n ≡ same → of_lane n ((m, event) ∷ []) ≡ cond same (event ∷ []) []
one_of n m event true is = rw is refl
one_of n m event false is = rw is refl

of_push : (n m : ℕ) (events : List (ℕ × Event)) (event : Event) (same : Bool) → eqb m n ≡ same → of_lane n (events ++ (m, event) ∷ []) ≡ of_lane n events ++ cond same (event ∷ []) []
of_push n m events event same is =
    ap (map (λ (e : ℕ × Event). e.1)) (filter-append (λ (e : ℕ × Event). eqb e.0 n) events ((m, event) ∷ []))
    ∙ map-append (λ (e : ℕ × Event). e.1) (filter (λ (e : ℕ × Event). eqb e.0 n) events) (filter (λ (e : ℕ × Event). eqb e.0 n) ((m, event) ∷ []))
    ∙ ap (λ es. of_lane n events ++ es) (one_of n m event same is)

of_other : (n m : ℕ) (events : List (ℕ × Event)) (event : Event) → m ≢ n → of_lane n (events ++ (m, event) ∷ []) ≡ of_lane n events
of_other n m events event other = of_push n m events event false (ne_eqb m n other) ∙ append-nil (of_lane n events)

-- an event of a lane before those
past_push : (n m : ℕ) (lanes : List CertLane) (events : List (ℕ × Event)) (event : Event) → m < n → with_events n lanes (events ++ (m, event) ∷ []) ≡ with_events n lanes events
past_push n m [] events event past = refl
past_push n m (lane ∷ lanes) events event past =
    ap (λ (es : List Event). let now : CertLane = record { events = lane.events ++ es; client = lane.client; listen = lane.listen } in now ∷ with_events (n + 1) lanes (events ++ (m, event) ∷ [])) (of_other n m events event (λ same. omega (arith, past, same)))
    ∙ ap (λ ls. let now : CertLane = record { events = lane.events ++ of_lane n events; client = lane.client; listen = lane.listen } in now ∷ ls) (past_push (n + 1) m lanes events event (omega (arith, past)))

-- an event more of a portion
pub with_push : (n : ℕ) (lanes : List CertLane) (k m : ℕ) (events : List (ℕ × Event)) (event : Event) → k < length lanes → m ≡ n + k
    → with_event k event (with_events n lanes events) ≡ with_events n lanes (events ++ (m, event) ∷ [])
with_push n [] k m events event within is = absurd (omega (arith, within))
with_push n (lane ∷ lanes) zero m events event within is =
    ap (λ (es : List Event). let now : CertLane = record { events = es; client = lane.client; listen = lane.listen } in now ∷ with_events (n + 1) lanes events)
    (append_assoc lane.events (of_lane n events) (event ∷ []) ∙ ap (λ es. lane.events ++ es) (sym (of_push n m events event true (eq-eqb m n (omega (arith, is))))))
    ∙ ap (λ ls. let now : CertLane = record { events = lane.events ++ of_lane n (events ++ (m, event) ∷ []); client = lane.client; listen = lane.listen } in now ∷ ls) (sym (past_push (n + 1) m lanes events event (omega (arith, is))))
with_push n (lane ∷ lanes) (suc k) m events event within is =
    ap (λ (es : List Event). let now : CertLane = record { events = lane.events ++ es; client = lane.client; listen = lane.listen } in now ∷ with_event k event (with_events (n + 1) lanes events)) (sym (of_other n m events event (λ same. omega (arith, is, same))))
    ∙ ap (λ ls. let now : CertLane = record { events = lane.events ++ of_lane n (events ++ (m, event) ∷ []); client = lane.client; listen = lane.listen } in now ∷ ls) (with_push (n + 1) lanes k m events event (omega (arith, within)) (omega (arith, is)))

pub with_length : (n : ℕ) (lanes : List CertLane) (events : List (ℕ × Event)) → length (with_events n lanes events) ≡ length lanes
with_length n [] events = refl
with_length n (lane ∷ lanes) events = let rest = with_length (n + 1) lanes events in omega (arith, rest)

count_cons : (lane : CertLane) (lanes : List CertLane) → event_count (lane ∷ lanes) ≡ length lane.events + event_count lanes
count_cons lane lanes = sum_by-cons (λ (l : CertLane). length l.events) lane lanes

one_longer : (events : List Event) (event : Event) → length (events ++ event ∷ []) ≡ length events + 1
one_longer [] event = refl
one_longer (e ∷ events) event = let rest = one_longer events event in omega (arith, rest)

pub count_with : (lanes : List CertLane) (k : ℕ) (event : Event) → k < length lanes → event_count (with_event k event lanes) ≡ event_count lanes + 1
count_with [] k event within = absurd (omega (arith, within))
count_with (lane ∷ lanes) zero event within =
    let now : CertLane = record { events = lane.events ++ event ∷ []; client = lane.client; listen = lane.listen } in
    omega (arith, count_cons now lanes, count_cons lane lanes, one_longer lane.events event)
count_with (lane ∷ lanes) (suc k) event within =
    let rest = count_with lanes k event (omega (arith, within)) in
    omega (arith, rest, count_cons lane (with_event k event lanes), count_cons lane lanes)

none_in_empty : (pairs : List (Addr × Addr)) → event_count (map empty_lane pairs) ≡ 0
none_in_empty [] = refl
none_in_empty (p ∷ pairs) = omega (arith, count_cons (empty_lane p) (map empty_lane pairs), none_in_empty pairs)

pub count_empty : (lanes : List CertLane) (pairs : List (Addr × Addr)) → event_count (lanes ++ map empty_lane pairs) ≡ event_count lanes
count_empty lanes pairs = omega (arith, sum_by-append (λ (l : CertLane). length l.events) lanes (map empty_lane pairs), none_in_empty pairs)

-- lanes that are apart stay so
pub apart_with : (n : ℕ) (lanes : List CertLane) (events : List (ℕ × Event)) → IsDistinct same_lane lanes → IsDistinct same_lane (with_events n lanes events)
unfolding IsDistinct
apart_with n [] events apart = tt
apart_with n (lane ∷ lanes) events apart = (others (n + 1) lane lanes apart.0, apart_with (n + 1) lanes events apart.1)
  where
    others : (m : ℕ) (lane : CertLane) (lanes : List CertLane) → AllByRecursion (λ other. same_lane lane other ≡ false) lanes
        → AllByRecursion (λ other. same_lane (record { events = lane.events ++ of_lane n events; client = lane.client; listen = lane.listen }) other ≡ false) (with_events m lanes events)
    others m lane [] all = tt
    others m lane (x ∷ lanes) all = (all.0, others (m + 1) lane lanes all.1)

-- the lanes go on by one pair
pub pairs_more : (old lanes now : List CertLane) (pairs : List (Addr × Addr)) (i : ℕ) (pair : Addr × Addr) → i < length pairs
    → now ≡ lanes ++ empty_lane (get_or pairs i pair) ∷ [] → lanes ≡ old ++ map empty_lane (take i pairs) → now ≡ old ++ map empty_lane (take (i + 1) pairs)
pairs_more old lanes now pairs i pair within is was =
    is ∙ ap (λ ls. ls ++ empty_lane (get_or pairs i pair) ∷ []) was
    ∙ append_assoc old (map empty_lane (take i pairs)) (empty_lane (get_or pairs i pair) ∷ [])
    ∙ ap (λ ls. old ++ ls) (sym (ap (map empty_lane) (take_more pairs i pair within) ∙ map-append empty_lane (take i pairs) (get_or pairs i pair ∷ [])))

-- and by one event
pub events_more : (old lanes now : List CertLane) (events : List (ℕ × Event)) (i : ℕ) (event : ℕ × Event) → i < length events → (get_or events i event).0 < length old
    → now ≡ with_event (get_or events i event).0 (get_or events i event).1 lanes → lanes ≡ with_events 0 old (take i events) → now ≡ with_events 0 old (take (i + 1) events)
events_more old lanes now events i event within there is was =
    let next = get_or events i event in
    is ∙ ap (with_event next.0 next.1) was ∙ with_push 0 old next.0 next.0 (take i events) next.1 there (omega arith) ∙ ap (with_events 0 old) (sym (take_more events i event within))
