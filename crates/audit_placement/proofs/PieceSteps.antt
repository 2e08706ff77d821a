-- Events that break no rule by themselves: of pieces, of lanes, and as they are placed.
use Rattle.std.proofs.Common.{◌≡◌, ◌<◌, ℕ, zero, suc, ◌+◌, ◌-◌, Bool, true, false, List, [], ◌∷◌, ◌++◌, length, take, get_or, All, Option, Some, None, sym, ap, ◌∙◌, subst, arith, refl}
use Rattle.std.specs.Prelude.{IsSomeAnd, IsTrue, slice_get}
use Rattle.std.specs.Bool.{OnTrue}
use Rattle.std.proofs.lemmas.List.{take_more}
use Rattle.std.proofs.lemmas.List.Elements.{All-head}
use Rattle.std.proofs.lemmas.Option.{slice_get-get_or, get_or_from_slice_get, none-some}
use Rattle.audit_model.specs.declared.event.Event.{Event}
use Rattle.audit_model.specs.declared.event.Key.{Key}
use Rattle.audit_model.specs.declared.pair.Pair.{Pair}
use Rattle.audit_model.specs.declared.sighting.SightId.{SightId}
use Rattle.audit_model.specs.Event.{key_of}
use Rattle.audit_sightings.specs.Intake.{Taken}
use Rattle.audit_placement.specs.Checks.{event_checks, first_broken}
use Rattle.audit_placement.specs.Clean.{PlacesEvent}
use Rattle.audit_placement.specs.Pieces.{last_of, BreakNoRule, PieceBreaksNoRule}
use Rattle.audit_placement.specs.declared.pieces.Piece.{Piece}
use Rattle.audit_placement.proofs.CleanSteps.{all_left, all_right}
use Rattle.audit_placement.proofs.CleanTurns.{CleanTurn, clean_turn}
use Rattle.audit_placement.proofs.Turns.{last_push}

last_at : (last : Option Key) (event : Event) (events : List Event) (d : Event) → last_of last (event ∷ events) ≡ Some (key_of (get_or (event ∷ events) (length events) d))
last_at last event [] d = refl
last_at last event (next ∷ events) d = last_at (Some (key_of event)) next events d

-- the key of the last of some events
pub last_key_of : (last : Option Key) (events : List Event) (event : Event) → Some event ≡ slice_get events (length events - 1) → Some (key_of event) ≡ last_of last events
last_key_of last [] event is = absurd (none-some event (sym is))
last_key_of last (first ∷ events) event is =
    let place : length (first ∷ events) - 1 ≡ length events = omega arith in
    let there : slice_get (first ∷ events) (length events) ≡ Some event = sym (is ∙ ap (slice_get (first ∷ events)) place) in
    ap (λ (e : Event). Some (key_of e)) (sym (get_or_from_slice_get (first ∷ events) (length events) event first there)) ∙ sym (last_at last first events first)

-- the key of the last of some events and one more
pub last_more : (start : Option Key) (events : List Event) (i : ℕ) (d : Event) (key : Key) → i < length events → key ≡ key_of (get_or events i d)
    → Some key ≡ last_of start (take (i + 1) events)
last_more start events i d key within same =
    ap Some same ∙ sym (last_push start (take i events) (get_or events i d)) ∙ ap (last_of start) (sym (take_more events i d within))

module _ (taken : Taken) (pair : Option Pair) where
  -- events behind others
  pub no_rule_append : (last : Option Key) (xs ys : List Event) → BreakNoRule taken pair last xs → BreakNoRule taken pair (last_of last xs) ys → BreakNoRule taken pair last (xs ++ ys)
  no_rule_append last [] ys one other = other
  no_rule_append last (x ∷ xs) ys one other = (one.0, no_rule_append (Some (key_of x)) xs ys one.1 other)

  -- one event more
  pub no_rule_more : (start last : Option Key) (events : List Event) (i : ℕ) (d : Event) → i < length events → last ≡ last_of start (take i events)
      → BreakNoRule taken pair start (take i events) → first_broken (event_checks taken false pair last (get_or events i d)) ≡ None → BreakNoRule taken pair start (take (i + 1) events)
  no_rule_more start last events i d within last_is so_far own =
      let event = get_or events i d in
      let alone : BreakNoRule taken pair (last_of start (take i events)) (event ∷ []) =
      (subst (λ (k : Option Key). first_broken (event_checks taken false pair k event) ≡ None) last_is own, tt) in
      subst (BreakNoRule taken pair start) (sym (take_more events i d within)) (no_rule_append start (take i events) (event ∷ []) so_far alone)

  -- each event by itself
  pub no_rule_at : (last : Option Key) (events : List Event) (i : ℕ) (d : Event) → i < length events → BreakNoRule taken pair last events
      → first_broken (event_checks taken false pair (last_of last (take i events)) (get_or events i d)) ≡ None
  no_rule_at last [] i d within held = absurd (omega arith)
  no_rule_at last (event ∷ events) zero d within held = held.0
  no_rule_at last (event ∷ events) (suc i) d within held = no_rule_at (Some (key_of event)) events i d (omega arith) held.1

  -- one event more, of which it is known that it breaks no rule, is placed
  pub placed_turn : (old mid now : SightId → Option Key) (events : List Event) (i : ℕ) (d : Event) → i < length events → BreakNoRule taken pair None events
      → CleanTurn taken old mid pair (take i events) (last_of None (take i events)) → PlacesEvent mid (get_or events i d) now
      → CleanTurn taken old now pair (take (i + 1) events) (last_of None (take (i + 1) events))
  placed_turn old mid now events i d within held turn placed =
      let event = get_or events i d in
      let more = clean_turn taken old mid now pair (take i events) (take (i + 1) events) (last_of None (take i events)) event (key_of event) turn
      (take_more events i d within) refl (record { own = no_rule_at None events i d within held; placed = placed }) in
      subst (CleanTurn taken old now pair (take (i + 1) events)) more.last_key more

-- what holds of each that is asked holds of all, where each flag is set
pub all_checked : {X : Type 0} (P : X → Type 0) (flags : List Bool) (xs : List X) → length flags ≡ length xs → All IsTrue flags
    → ((i : ℕ) (d : Bool) → i < length flags → OnTrue (get_or flags i d) (IsSomeAnd (slice_get xs i) P)) → All P xs
all_checked P flags xs as_many set asked = λ i d within.
    let there : i < length flags = omega (arith, as_many, within) in
    let some = subst (λ b. OnTrue b (IsSomeAnd (slice_get xs i) P)) (set i true there) (asked i true there) in
    subst (λ o. IsSomeAnd o P) (slice_get-get_or xs i d within) some

-- no events are left
pub none_left : (taken : Taken) (pair : Option Pair) (last : Option Key) (events : List Event) → ¬ (0 < length events) → BreakNoRule taken pair last events
none_left taken pair last [] none = tt
none_left taken pair last (event ∷ events) none = absurd (none (omega arith))

-- one piece more, which begins the events that are left
pub piece_more : (taken : Taken) (pair : Option Pair) (events : List Event) (old mid new : List Piece) (piece : Piece) (last after : Option Key) (rest part behind : List Event)
    → (All (PieceBreaksNoRule taken) mid → All (PieceBreaksNoRule taken) old × (BreakNoRule taken pair last rest → BreakNoRule taken pair None events))
    → new ≡ mid ++ piece ∷ [] → (PieceBreaksNoRule taken piece → BreakNoRule taken pair last part) → rest ≡ part ++ behind → after ≡ last_of last part
    → All (PieceBreaksNoRule taken) new → All (PieceBreaksNoRule taken) old × (BreakNoRule taken pair after behind → BreakNoRule taken pair None events)
piece_more taken pair events old mid new piece last after rest part behind so_far is of_piece whole after_is all =
    let P = PieceBreaksNoRule taken in
    let each = subst (All P) is all in
    let both = so_far (all_left P mid (piece ∷ []) each) in
    let own = of_piece (All-head P piece [] (all_right P mid (piece ∷ []) each)) in (
      both.0,
      λ left. both.1 (subst (BreakNoRule taken pair last) (sym whole)
          (no_rule_append taken pair last part behind own (subst (λ (k : Option Key). BreakNoRule taken pair k behind) after_is left))),
    )

-- what follows where the flag is set
pub on_true : (b : Bool) (P Q : Type 0) → (P → Q) → OnTrue b P → OnTrue b Q
on_true true P Q f p = f p
on_true false P Q f p = tt

pub of_set : (b : Bool) (P : Type 0) → b ≡ true → OnTrue b P → P
of_set b P set holds = subst (λ (b : Bool). OnTrue b P) set holds
