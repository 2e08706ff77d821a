-- What entries in turn show, as more of them come.
use Rattle.std.proofs.Common.{◌≡◌, ℕ, ◌+◌, List, [], ◌∷◌, ◌++◌, length, Option, Some, None, refl, sym, ap, ◌∙◌, subst, ◌⊎◌, inl, inr, append_assoc, append-nil, arith, ◌<◌, get_or, take, length-take}
use Rattle.std.proofs.lemmas.List.{take_more}
use Rattle.audit_model.specs.declared.certificate.CertLane.{CertLane}
use Rattle.audit_model.specs.declared.certificate.Certificate.{Certificate}
use Rattle.audit_model.specs.declared.event.Event.{Event}
use Rattle.audit_model.specs.declared.event.Key.{Key}
use Rattle.audit_model.specs.declared.verdict.Breach.{Breach}
use Rattle.audit_model.specs.Breach.{lesser}
use Rattle.audit_model.specs.Event.{key_of}
use Rattle.audit_model.specs.Least.{IsLeast}
use Rattle.audit_model.proofs.LeastBreach.{least_same}
use Rattle.audit_sightings.specs.Intake.{Taken}
use Rattle.audit_placement.specs.declared.entry.Entry.{Entry}
use Rattle.audit_model.specs.declared.pair.Pair.{Pair}
use Rattle.audit_placement.specs.declared.first.FirstPlaces.{FirstPlaces}
use Rattle.audit_placement.specs.Entries.{entry_of, entries_from, lane_entries, lanes_entries}
pub use Rattle.audit_placement.specs.Pieces.{last_of}
use Rattle.audit_placement.specs.FirstPlace.{Notes}
use Rattle.audit_placement.specs.Shows.{ShowsAt, ShowsFrom}
use Rattle.audit_placement.proofs.LeastOfTwo.{least_both}

module _ (taken : Taken) where
  apart : (earlier xs ys : List Entry) (b : Breach) → ShowsFrom taken earlier (xs ++ ys) b → ShowsFrom taken earlier xs b ⊎ ShowsFrom taken (earlier ++ xs) ys b
  apart earlier [] ys b shown = inr (rw (append-nil earlier) shown)
  apart earlier (x ∷ xs) ys b (inl shown) = inl (inl shown)
  apart earlier (x ∷ xs) ys b (inr shown) = elim (apart (earlier ++ x ∷ []) xs ys b shown) [
    | inl h ↦ inl (inr h)
    | inr h ↦ inr (subst (λ es. ShowsFrom taken es ys b) (append_assoc earlier (x ∷ []) xs) h)
  ]

  together : (earlier xs ys : List Entry) (b : Breach) → ShowsFrom taken earlier xs b ⊎ ShowsFrom taken (earlier ++ xs) ys b → ShowsFrom taken earlier (xs ++ ys) b
  together earlier [] ys b (inl shown) = absurd shown
  together earlier [] ys b (inr shown) = rw (sym (append-nil earlier)) shown
  together earlier (x ∷ xs) ys b (inl (inl shown)) = inl shown
  together earlier (x ∷ xs) ys b (inl (inr shown)) = inr (together (earlier ++ x ∷ []) xs ys b (inl shown))
  together earlier (x ∷ xs) ys b (inr shown) =
      inr (together (earlier ++ x ∷ []) xs ys b (inr (subst (λ es. ShowsFrom taken es ys b) (sym (append_assoc earlier (x ∷ []) xs)) shown)))

  -- the least of entries, and of those that come behind them
  pub least_append : (earlier xs ys : List Entry) (a b : Option Breach) → IsLeast (ShowsFrom taken earlier xs) a
      → IsLeast (ShowsFrom taken (earlier ++ xs) ys) b → IsLeast (ShowsFrom taken earlier (xs ++ ys)) (lesser a b)
  least_append earlier xs ys a b one other =
      least_same (λ x. ShowsFrom taken earlier xs x ⊎ ShowsFrom taken (earlier ++ xs) ys x) (ShowsFrom taken earlier (xs ++ ys))
      (together earlier xs ys) (apart earlier xs ys) (lesser a b)
      (least_both (ShowsFrom taken earlier xs) (ShowsFrom taken (earlier ++ xs) ys) a b one other)

  -- the least of one entry alone
  pub least_one : (earlier : List Entry) (entry : Entry) (a : Option Breach) → IsLeast (ShowsAt taken earlier entry) a
      → IsLeast (ShowsFrom taken earlier (entry ∷ [])) a
  least_one earlier entry a is =
      least_same (ShowsAt taken earlier entry) (ShowsFrom taken earlier (entry ∷ [])) (λ b shown. inl shown)
      (λ b shown. elim shown [ inl h ↦ h | inr h ↦ absurd h ]) a is

pub last_push : (last : Option Key) (events : List Event) (event : Event) → last_of last (events ++ event ∷ []) ≡ Some (key_of event)
last_push last [] event = refl
last_push last (e ∷ events) event = last_push (Some (key_of e)) events event

pub entries_push : (pair : Option Pair) (lane place : ℕ) (last : Option Key) (events : List Event) (event : Event)
    → entries_from pair lane place last (events ++ event ∷ [])
    ≡ entries_from pair lane place last events ++ entry_of pair lane (place + length events) (last_of last events) event ∷ []
entries_push pair lane place last [] event =
    let e : place + 0 ≡ place = omega arith in rw e refl
entries_push pair lane place last (e ∷ events) event =
    let s : place + 1 + length events ≡ place + length (e ∷ events) = omega arith in
    ap (λ es. entry_of pair lane place last e ∷ es)
    (entries_push pair lane (place + 1) (Some (key_of e)) events event
    ∙ ap (λ (n : ℕ). entries_from pair lane (place + 1) (Some (key_of e)) events ++ entry_of pair lane n (last_of (Some (key_of e)) events) event ∷ []) s)

-- events in turn from the start of their lane: the least breach that they show, the last key, and their first placements noted
pub record InTurn (taken : Taken) (certificate : Certificate) (old new : FirstPlaces) (pair : Option Pair) (lane : ℕ) (events : List Event) (least : Option Breach) (last : Option Key) : Type 0 where
  pub last_key : last ≡ last_of None events
  pub shown : (earlier : List Entry) → Notes certificate old earlier → IsLeast (ShowsFrom taken earlier (entries_from pair lane 0 None events)) least
  pub notes : (earlier : List Entry) → Notes certificate old earlier → Notes certificate new (earlier ++ entries_from pair lane 0 None events)

pub none_yet : (taken : Taken) (certificate : Certificate) (first : FirstPlaces) (pair : Option Pair) (lane : ℕ) → InTurn taken certificate first first pair lane [] None None
none_yet taken certificate first pair lane = record {
  last_key = refl;
  shown = λ earlier notes b shown. shown;
  notes = λ earlier notes. rw (append-nil earlier) notes;
}

-- one event more
pub one_more : (taken : Taken) (certificate : Certificate) (old mid new : FirstPlaces) (pair : Option Pair) (lane : ℕ) (events : List Event) (least found : Option Breach) (last : Option Key) (event : Event) (place : ℕ)
    → InTurn taken certificate old mid pair lane events least last → place ≡ length events
    → ((earlier : List Entry) → Notes certificate mid earlier → IsLeast (ShowsAt taken earlier (entry_of pair lane place last event)) found)
    → ((earlier : List Entry) → Notes certificate mid earlier → Notes certificate new (earlier ++ entry_of pair lane place last event ∷ []))
    → InTurn taken certificate old new pair lane (events ++ event ∷ []) (lesser least found) (Some (key_of event))
one_more taken certificate old mid new pair lane events least found last event place turn at shown notes =
    let so_far = entries_from pair lane 0 None events in
    let new_entry = entry_of pair lane place last event in
    let from_zero : 0 + length events ≡ place = omega (arith, at) in
    let same : entries_from pair lane 0 None (events ++ event ∷ []) ≡ so_far ++ new_entry ∷ [] =
    entries_push pair lane 0 None events event
    ∙ ap (λ (n : ℕ). so_far ++ entry_of pair lane n (last_of None events) event ∷ []) from_zero
    ∙ ap (λ (k : Option Key). so_far ++ entry_of pair lane place k event ∷ []) (sym turn.last_key) in
    record {
      last_key = sym (last_push None events event);
      shown = λ earlier noted. rw same (least_append taken earlier so_far (new_entry ∷ []) least found (turn.shown earlier noted)
          (least_one taken (earlier ++ so_far) new_entry found (shown (earlier ++ so_far) (turn.notes earlier noted))));
      notes = λ earlier noted. rw (same, sym (append_assoc earlier so_far (new_entry ∷ []))) (notes (earlier ++ so_far) (turn.notes earlier noted));
    }

-- the same of an event whose key was read
pub turn_more : (taken : Taken) (certificate : Certificate) (old mid new : FirstPlaces) (pair : Option Pair) (lane : ℕ) (events more : List Event) (least found least' : Option Breach) (last : Option Key) (event : Event) (key : Key) (place : ℕ)
    → InTurn taken certificate old mid pair lane events least last → place ≡ length events → more ≡ events ++ event ∷ [] → key ≡ key_of event → least' ≡ lesser least found
    → ((earlier : List Entry) → Notes certificate mid earlier → IsLeast (ShowsAt taken earlier (record { at = record { key = key; lane = lane; place = place }; event = event; pair = pair; last = last })) found)
    → ((earlier : List Entry) → Notes certificate mid earlier → Notes certificate new (earlier ++ record { at = record { key = key; lane = lane; place = place }; event = event; pair = pair; last = last } ∷ []))
    → InTurn taken certificate old new pair lane more least' (Some key)
turn_more taken certificate old mid new pair lane events more least found least' last event key place turn at is same lesser_is =
    rw (is, lesser_is)
    (subst (λ (k : Key).
    ((earlier : List Entry) → Notes certificate mid earlier → IsLeast (ShowsAt taken earlier (record { at = record { key = k; lane = lane; place = place }; event = event; pair = pair; last = last })) found)
    → ((earlier : List Entry) → Notes certificate mid earlier → Notes certificate new (earlier ++ record { at = record { key = k; lane = lane; place = place }; event = event; pair = pair; last = last } ∷ []))
    → InTurn taken certificate old new pair lane (events ++ event ∷ []) (lesser least found) (Some k))
    (sym same)
    (λ shown notes. one_more taken certificate old mid new pair lane events least found last event place turn at shown notes))

pub lanes_push : (number : ℕ) (lanes : List CertLane) (lane : CertLane)
    → lanes_entries number (lanes ++ lane ∷ []) ≡ lanes_entries number lanes ++ lane_entries (number + length lanes) lane
lanes_push number [] lane =
    let e : number + 0 ≡ number = omega arith in rw e (append-nil (lane_entries number lane))
lanes_push number (first ∷ lanes) lane =
    let s : number + 1 + length lanes ≡ number + length (first ∷ lanes) = omega arith in
    ap (λ es. lane_entries number first ++ es) (lanes_push (number + 1) lanes lane ∙ ap (λ (n : ℕ). lanes_entries (number + 1) lanes ++ lane_entries n lane) s)
    ∙ sym (append_assoc (lane_entries number first) (lanes_entries (number + 1) lanes) (lane_entries (number + length (first ∷ lanes)) lane))

-- the lanes at the front with one lane more
pub lanes_more : (lanes : List CertLane) (number : ℕ) (lane : CertLane) → number < length lanes → lane ≡ get_or lanes number lane
    → lanes_entries 0 (take (number + 1) lanes) ≡ lanes_entries 0 (take number lanes) ++ lane_entries number lane
lanes_more lanes number lane within is =
    let count : 0 + length (take number lanes) ≡ number = omega (arith, length-take number lanes) in
    ap (lanes_entries 0) (take_more lanes number lane within ∙ ap (λ (l : CertLane). take number lanes ++ l ∷ []) (sym is))
    ∙ lanes_push 0 (take number lanes) lane
    ∙ ap (λ (n : ℕ). lanes_entries 0 (take number lanes) ++ lane_entries n lane) count
