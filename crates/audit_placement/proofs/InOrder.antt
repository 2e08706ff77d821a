-- The entries of a certificate stand by lane and place.
use Rattle.std.proofs.Common.{◌≡◌, ◌<◌, ◌≤◌, ◌+◌, ℕ, List, [], ◌∷◌, ◌++◌, length, map, Option, Some, None, ◌⊎◌, inl, inr, refl, sym, subst, arith}
use Rattle.std.specs.Prelude.{Contains}
use Rattle.std.proofs.lemmas.List.Elements.{Contains-push, Contains-push_cases, Contains-append_left, Contains-append_right, Contains-append_cases}
use Rattle.audit_model.specs.declared.certificate.Certificate.{Certificate}
use Rattle.audit_model.specs.declared.certificate.CertLane.{CertLane}
use Rattle.audit_model.specs.declared.event.At.{At}
use Rattle.audit_model.specs.declared.event.Event.{Event}
use Rattle.audit_model.specs.declared.event.Key.{Key}
use Rattle.audit_model.specs.Event.{key_of}
use Rattle.audit_placement.specs.declared.entry.Entry.{Entry}
use Rattle.audit_model.specs.declared.pair.Pair.{Pair}
use Rattle.audit_placement.specs.Among.{ComesBefore}
use Rattle.audit_placement.specs.Entries.{entry_of, entries_from, lane_entries, lanes_entries, drop_entries, arrival_of, entries}

pub in_front : (entry : Entry) (later : List Entry) → Contains (entry ∷ later) entry
in_front entry later = Contains-append_left (entry ∷ []) later entry (Contains-push [] entry)

pub behind : (entry : Entry) (later : List Entry) (other : Entry) → Contains later other → Contains (entry ∷ later) other
behind entry later other there = Contains-append_right (entry ∷ []) later other there

pub contains_none : (other : Entry) → ¬ Contains [] other
contains_none other there = omega (arith, there.1)

pub front_or_behind : (entry : Entry) (later : List Entry) (other : Entry) → Contains (entry ∷ later) other → (entry ≡ other) ⊎ Contains later other
front_or_behind entry later other there = elim (Contains-append_cases (entry ∷ []) later other there) [
  | inl front ↦ elim (Contains-push_cases [] entry other front) [ inl none ↦ absurd (contains_none other none) | inr same ↦ inl same ]
  | inr later ↦ inr later
]

-- each comes before those behind it
abbrev pub AreInOrder : List Entry → Type 0
AreInOrder [] = Unit {0}
AreInOrder (entry ∷ later) = ((other : Entry) → Contains later other → ComesBefore entry.at other.at) × AreInOrder later

order_append : (xs ys : List Entry) → AreInOrder xs → AreInOrder ys → ((x y : Entry) → Contains xs x → Contains ys y → ComesBefore x.at y.at) → AreInOrder (xs ++ ys)
order_append [] ys one other across = other
order_append (x ∷ xs) ys one other across = (
  λ y there. elim (Contains-append_cases xs ys y there) [ inl h ↦ one.0 y h | inr h ↦ across x y (in_front x xs) h ],
  order_append xs ys one.1 other (λ a b in_xs in_ys. across a b (behind x xs a in_xs) in_ys),
)

pub order_right : (xs ys : List Entry) → AreInOrder (xs ++ ys) → AreInOrder ys
order_right [] ys order = order
order_right (x ∷ xs) ys order = order_right xs ys order.1

pub order_across : (xs ys : List Entry) → AreInOrder (xs ++ ys) → (x y : Entry) → Contains xs x → Contains ys y → ComesBefore x.at y.at
order_across [] ys order x y in_xs in_ys = absurd (contains_none x in_xs)
order_across (e ∷ xs) ys order x y in_xs in_ys = elim (front_or_behind e xs x in_xs) [
  | inl same ↦ subst (λ (z : Entry). ComesBefore z.at y.at) same (order.0 y (Contains-append_right xs ys y in_ys))
  | inr later ↦ order_across xs ys order.1 x y later in_ys
]

pub not_before_itself : (at : At) → ¬ ComesBefore at at
not_before_itself at (inl less) = omega (arith, less)
not_before_itself at (inr less) = omega (arith, less.1)

pub not_both_ways : (one other : At) → ComesBefore one other → ¬ ComesBefore other one
not_both_ways one other (inl less) (inl more) = omega (arith, less, more)
not_both_ways one other (inl less) (inr more) = omega (arith, less, more.0)
not_both_ways one other (inr less) (inl more) = omega (arith, less.0, more)
not_both_ways one other (inr less) (inr more) = omega (arith, less.1, more.1)

from_bounds : (pair : Option Pair) (lane place : ℕ) (last : Option Key) (events : List Event) (entry : Entry)
    → Contains (entries_from pair lane place last events) entry → (entry.at.lane ≡ lane) × (place ≤ entry.at.place)
from_bounds pair lane place last [] entry there = absurd (contains_none entry there)
from_bounds pair lane place last (event ∷ events) entry there =
    elim (front_or_behind (entry_of pair lane place last event) (entries_from pair lane (place + 1) (Some (key_of event)) events) entry there) [
      | inl same ↦ subst (λ (e : Entry). (e.at.lane ≡ lane) × (place ≤ e.at.place)) same (refl, omega arith)
      | inr later ↦ let rest = from_bounds pair lane (place + 1) (Some (key_of event)) events entry later in (rest.0, omega (arith, rest.1))
    ]

from_in_order : (pair : Option Pair) (lane place : ℕ) (last : Option Key) (events : List Event) → AreInOrder (entries_from pair lane place last events)
from_in_order pair lane place last [] = tt
from_in_order pair lane place last (event ∷ events) = (
  λ other there. let rest = from_bounds pair lane (place + 1) (Some (key_of event)) events other there in inr (sym rest.0, omega (arith, rest.1)),
  from_in_order pair lane (place + 1) (Some (key_of event)) events,
)

abbrev pair_of : CertLane → Option Pair
pair_of lane = Some (record { client = lane.client; listen = lane.listen })

lanes_bounds : (number : ℕ) (lanes : List CertLane) (entry : Entry) → Contains (lanes_entries number lanes) entry
    → (number ≤ entry.at.lane) × (entry.at.lane < number + length lanes)
lanes_bounds number [] entry there = absurd (contains_none entry there)
lanes_bounds number (lane ∷ lanes) entry there = elim (Contains-append_cases (lane_entries number lane) (lanes_entries (number + 1) lanes) entry there) [
  | inl here ↦ let one = from_bounds (pair_of lane) number 0 None lane.events entry here in (omega (arith, one.0), omega (arith, one.0))
  | inr later ↦ let rest = lanes_bounds (number + 1) lanes entry later in (omega (arith, rest.0), omega (arith, rest.1))
]

lanes_in_order : (number : ℕ) (lanes : List CertLane) → AreInOrder (lanes_entries number lanes)
lanes_in_order number [] = tt
lanes_in_order number (lane ∷ lanes) =
    order_append (lane_entries number lane) (lanes_entries (number + 1) lanes) (from_in_order (pair_of lane) number 0 None lane.events) (lanes_in_order (number + 1) lanes)
    (λ x y here later. let one = from_bounds (pair_of lane) number 0 None lane.events x here in let rest = lanes_bounds (number + 1) lanes y later in
    inl (omega (arith, one.0, rest.0)))

pub entries_in_order : (certificate : Certificate) → AreInOrder (entries certificate)
entries_in_order certificate =
    let count = length certificate.lanes in
    order_append (lanes_entries 0 certificate.lanes) (drop_entries count certificate.drops) (lanes_in_order 0 certificate.lanes)
    (from_in_order None count 0 None (map arrival_of certificate.drops))
    (λ x y here later. let one = lanes_bounds 0 certificate.lanes x here in let rest = from_bounds None count 0 None (map arrival_of certificate.drops) y later in
    inl (omega (arith, one.1, rest.0)))
