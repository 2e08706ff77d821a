-- What is earlier, and first, in entries that stand by lane and place.
use Rattle.std.proofs.Common.{◌≡◌, Bool, true, false, cond, List, [], ◌∷◌, ◌++◌, Some, inl, inr, refl, sym, ap, ◌∙◌, subst, append_assoc}
use Rattle.std.specs.Prelude.{Contains, is_some, ◌↔◌}
use Rattle.std.proofs.lemmas.Bool.{true≢false, eq-eqb}
use Rattle.std.proofs.lemmas.Option.{none-some, same_Some}
use Rattle.std.proofs.lemmas.List.Elements.{Contains-append_left, Contains-append_right, Contains-append_cases}
use Rattle.audit_model.specs.declared.certificate.Certificate.{Certificate}
use Rattle.audit_model.specs.declared.event.At.{At}
use Rattle.audit_model.specs.declared.event.Event.{Event}
use Rattle.audit_model.specs.declared.event.Event.TheVariants.{In, Act, Out}
use Rattle.audit_model.specs.declared.sighting.SightId.{SightId}
use Rattle.audit_model.specs.declared.verdict.Breach.{Breach}
use Rattle.audit_sightings.specs.Intake.{Taken}
use Rattle.audit_placement.specs.declared.entry.Entry.{Entry}
use Rattle.audit_placement.specs.Among.{ComesBefore, IsPlacedBefore, ShowsAmong, IsFirst}
use Rattle.audit_placement.specs.Checks.{IsOneOf, event_checks}
use Rattle.audit_placement.specs.Entries.{entries}
use Rattle.audit_placement.specs.FirstPlace.{places, first_place, is_placed}
use Rattle.audit_model.specs.Sames.{same_sight}
use Rattle.audit_placement.specs.Shows.{ShowsFrom}
use Rattle.audit_placement.proofs.FirstPush.{same_is}
use Rattle.audit_placement.proofs.InOrder.{AreInOrder, in_front, behind, contains_none, front_or_behind, order_right, order_across, not_before_itself, not_both_ways, entries_in_order}

module _ (sight : SightId) where
  is_first_by : (e : Entry) (es : List Entry) (at : At) → AreInOrder (e ∷ es) → (first_place es sight ≡ Some at → IsFirst es sight at)
      → (here : Bool) → places e.event sight ≡ here → cond here (Some e.at) (first_place es sight) ≡ Some at → IsFirst (e ∷ es) sight at
  is_first_by e es at order rest true is found =
      let same = same_Some e.at at found in
      record {
        entry = e;
        there = in_front e es;
        places_it = is;
        is_at = same;
        none_before = λ other there placed before. elim (front_or_behind e es other there) [
          | inl one ↦ not_before_itself e.at (subst (λ (a : At). ComesBefore a e.at) (sym (ap (λ (x : Entry). x.at) one)) (subst (ComesBefore other.at) (sym same) before))
          | inr later ↦ not_both_ways e.at other.at (order.0 other later) (subst (ComesBefore other.at) (sym same) before)
        ];
      }
  is_first_by e es at order rest false is found =
      let tail = rest found in
      record {
        entry = tail.entry;
        there = behind e es tail.entry tail.there;
        places_it = tail.places_it;
        is_at = tail.is_at;
        none_before = λ other there placed before. elim (front_or_behind e es other there) [
          | inl one ↦ absurd (true≢false (sym placed ∙ ap (λ (x : Entry). places x.event sight) (sym one) ∙ is))
          | inr later ↦ tail.none_before other later placed before
        ];
      }

  pub is_first : (es : List Entry) (at : At) → AreInOrder es → first_place es sight ≡ Some at → IsFirst es sight at
  is_first [] at order found = absurd (none-some at found)
  is_first (e ∷ es) at order found = is_first_by e es at order (is_first es at order.1) (places e.event sight) refl found

  from_first_by : (e : Entry) (es : List Entry) (at : At) → AreInOrder (e ∷ es) → (first : IsFirst (e ∷ es) sight at) → (IsFirst es sight at → first_place es sight ≡ Some at)
      → (here : Bool) → places e.event sight ≡ here → cond here (Some e.at) (first_place es sight) ≡ Some at
  from_first_by e es at order first rest true is = elim (front_or_behind e es first.entry first.there) [
    | inl one ↦ ap Some (ap (λ (x : Entry). x.at) one ∙ first.is_at)
    | inr later ↦ absurd (first.none_before e (in_front e es) is (subst (ComesBefore e.at) first.is_at (order.0 first.entry later)))
  ]
  from_first_by e es at order first rest false is = elim (front_or_behind e es first.entry first.there) [
    | inl one ↦ absurd (true≢false (sym first.places_it ∙ ap (λ (x : Entry). places x.event sight) (sym one) ∙ is))
    | inr later ↦ rest (record {
      entry = first.entry;
      there = later;
      places_it = first.places_it;
      is_at = first.is_at;
      none_before = λ other there placed before. first.none_before other (behind e es other there) placed before;
    })
  ]

  pub from_first : (es : List Entry) (at : At) → AreInOrder es → IsFirst es sight at → first_place es sight ≡ Some at
  from_first [] at order first = absurd (contains_none first.entry first.there)
  from_first (e ∷ es) at order first = from_first_by e es at order first (from_first es at order.1) (places e.event sight) refl

pub first_by_place : (certificate : Certificate) (sight : SightId) (at : At) → (first_place (entries certificate) sight ≡ Some at) ↔ IsFirst (entries certificate) sight at
first_by_place certificate sight at =
    (is_first sight (entries certificate) at (entries_in_order certificate), from_first sight (entries certificate) at (entries_in_order certificate))

found_by : (sight : SightId) (e : Entry) (es : List Entry) → (is_some (first_place es sight) ≡ true → (other : Entry) × Contains es other × (places other.event sight ≡ true))
    → (here : Bool) → places e.event sight ≡ here → is_some (cond here (Some e.at) (first_place es sight)) ≡ true
    → (other : Entry) × Contains (e ∷ es) other × (places other.event sight ≡ true)
found_by sight e es rest true is found = (e, in_front e es, is)
found_by sight e es rest false is found = let tail = rest found in (tail.0, behind e es tail.0 tail.1, tail.2)

-- a sighting that is placed is placed by one of them
found_in : (sight : SightId) (es : List Entry) → is_some (first_place es sight) ≡ true → (other : Entry) × Contains es other × (places other.event sight ≡ true)
found_in sight [] found = absurd (true≢false (sym found))
found_in sight (e ∷ es) found = found_by sight e es (found_in sight es) (places e.event sight) refl found

placed_by : (sight : SightId) (e : Entry) (es : List Entry) (other : Entry) → Contains (e ∷ es) other → places other.event sight ≡ true
    → (Contains es other → is_some (first_place es sight) ≡ true) → (here : Bool) → places e.event sight ≡ here
    → is_some (cond here (Some e.at) (first_place es sight)) ≡ true
placed_by sight e es other there placed rest true is = refl
placed_by sight e es other there placed rest false is = elim (front_or_behind e es other there) [
  | inl one ↦ absurd (true≢false (sym placed ∙ ap (λ (x : Entry). places x.event sight) (sym one) ∙ is))
  | inr later ↦ rest later
]

placed_in : (sight : SightId) (es : List Entry) (other : Entry) → Contains es other → places other.event sight ≡ true → is_some (first_place es sight) ≡ true
placed_in sight [] other there placed = absurd (contains_none other there)
placed_in sight (e ∷ es) other there placed = placed_by sight e es other there placed (λ later. placed_in sight es other later placed) (places e.event sight) refl

pub same_itself : (sight : SightId) → same_sight sight sight ≡ true
same_itself sight = rw (eq-eqb sight.iface sight.iface refl, eq-eqb sight.index sight.index refl) refl

-- some of them places what the event places
abbrev PlacedAmong : List Entry → Event → Type 0
PlacedAmong es event = (other : Entry) × Contains es other × ((sight : SightId) × (places other.event sight ≡ true) × (places event sight ≡ true))

among_them : (es : List Entry) (event : Event) → is_placed es event ≡ true → PlacedAmong es event
among_them es (In sight key) placed = let one = found_in sight es placed in (one.0, one.1, (sight, one.2, same_itself sight))
among_them es (Act arrival departure key) placed = absurd (true≢false (sym placed))
among_them es (Out sight key) placed = let one = found_in sight es placed in (one.0, one.1, (sight, one.2, same_itself sight))

then_placed : (es : List Entry) (event : Event) (other : Entry) (sight : SightId) → Contains es other → places other.event sight ≡ true → places event sight ≡ true
    → is_placed es event ≡ true
then_placed es (In placed key) other sight there it this = placed_in placed es other there (ap (places other.event) (same_is placed sight this) ∙ it)
then_placed es (Act arrival departure key) other sight there it this = absurd (true≢false (sym this))
then_placed es (Out placed key) other sight there it this = placed_in placed es other there (ap (places other.event) (same_is placed sight this) ∙ it)

-- what an earlier one places is placed by one that comes before
pub earlier_is_before : (earlier : List Entry) (e : Entry) (later : List Entry) → AreInOrder (earlier ++ e ∷ later)
    → (is_placed earlier e.event ≡ true) ↔ IsPlacedBefore (earlier ++ e ∷ later) e
earlier_is_before earlier e later order = (
  λ placed. let one = among_them earlier e.event placed in record {
    other = one.0;
    there = Contains-append_left earlier (e ∷ later) one.0 one.1;
    before = order_across earlier (e ∷ later) order one.0 e one.1 (in_front e later);
    sight = one.2.0;
    places_it = one.2.1;
    as_this = one.2.2;
  },
  λ one. elim (Contains-append_cases earlier (e ∷ later) one.other one.there) [
    | inl there ↦ then_placed earlier e.event one.other one.sight there one.places_it one.as_this
    | inr not_earlier ↦ elim (front_or_behind e later one.other not_earlier) [
      | inl same ↦ absurd (not_before_itself e.at (subst (λ (x : Entry). ComesBefore x.at e.at) (sym same) one.before))
      | inr there ↦ absurd (not_both_ways e.at one.other.at ((order_right earlier (e ∷ later) order).0 one.other there) one.before)
    ]
  ],
)

same_answer : {P : Type 0} (p q : Bool) → (p ≡ true) ↔ P → (q ≡ true) ↔ P → p ≡ q
same_answer true true a b = refl
same_answer true false a b = absurd (true≢false (sym (b.1 (a.0 refl))))
same_answer false true a b = absurd (true≢false (sym (a.1 (b.0 refl))))
same_answer false false a b = refl

module _ (taken : Taken) (b : Breach) where
  to_among : (earlier es : List Entry) → AreInOrder (earlier ++ es) → ShowsFrom taken earlier es b → ShowsAmong taken (earlier ++ es) b
  to_among earlier [] order shown = absurd shown
  to_among earlier (e ∷ es) order (inl shown) = record {
    entry = e;
    there = Contains-append_right earlier (e ∷ es) e (in_front e es);
    placed = is_placed earlier e.event;
    tells = earlier_is_before earlier e es order;
    broken = shown;
  }
  to_among earlier (e ∷ es) order (inr shown) =
      let same : (earlier ++ e ∷ []) ++ es ≡ earlier ++ e ∷ es = append_assoc earlier (e ∷ []) es in
      subst (λ (all : List Entry). ShowsAmong taken all b) same (to_among (earlier ++ e ∷ []) es (subst AreInOrder (sym same) order) shown)

  from_among : (earlier es : List Entry) → AreInOrder (earlier ++ es) → (entry : Entry) (placed : Bool) → Contains es entry
      → (placed ≡ true) ↔ IsPlacedBefore (earlier ++ es) entry
      → IsOneOf (event_checks taken placed entry.pair entry.last entry.event) entry.at b → ShowsFrom taken earlier es b
  from_among earlier [] order entry placed there tells broken = absurd (contains_none entry there)
  from_among earlier (e ∷ es) order entry placed there tells broken = elim (front_or_behind e es entry there) [
    | inl one ↦
        let tells_here = subst (λ (x : Entry). (placed ≡ true) ↔ IsPlacedBefore (earlier ++ e ∷ es) x) (sym one) tells in
        let broken_here = subst (λ (x : Entry). IsOneOf (event_checks taken placed x.pair x.last x.event) x.at b) (sym one) broken in
        inl (subst (λ (p : Bool). IsOneOf (event_checks taken p e.pair e.last e.event) e.at b)
        (same_answer placed (is_placed earlier e.event) tells_here (earlier_is_before earlier e es order)) broken_here)
    | inr later ↦
        let same : (earlier ++ e ∷ []) ++ es ≡ earlier ++ e ∷ es = append_assoc earlier (e ∷ []) es in
        inr (from_among (earlier ++ e ∷ []) es (subst AreInOrder (sym same) order) entry placed later
        (subst (λ (all : List Entry). (placed ≡ true) ↔ IsPlacedBefore all entry) (sym same) tells) broken)
  ]

pub shown_by_place : (taken : Taken) (certificate : Certificate) (b : Breach) → ShowsFrom taken [] (entries certificate) b ↔ ShowsAmong taken (entries certificate) b
shown_by_place taken certificate b = (
  to_among taken b [] (entries certificate) (entries_in_order certificate),
  λ shown. from_among taken b [] (entries certificate) (entries_in_order certificate) shown.entry shown.placed shown.there shown.tells shown.broken,
)
