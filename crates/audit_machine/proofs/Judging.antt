-- The earliest end of the hold after some moments, and of the windows of sightings that are not placed.
use Rattle.std.proofs.Common.{◌≡◌, ◌≤◌, ◌<◌, ◌+◌, ◌⊎◌, inl, inr, ℕ, Bool, true, false, cond, Option, Some, None, List, ◌∷◌, length, refl, sym, ◌∙◌, ap, subst, arith}
use Rattle.std.specs.Prelude.{is_some, slice_get, slice_index_or}
use Rattle.std.specs.BTreeMap.{is_at}
use Rattle.std.specs.Map.{lookup}
use Rattle.std.proofs.lemmas.Bool.{cases_lt}
use Rattle.std.proofs.lemmas.Option.{same_Some, slice_get_cases, slice_get_within, slice_get-get_or, get_or_from_slice_get}
use Rattle.audit_model.specs.declared.sighting.SightId.{SightId}
use Rattle.audit_model.specs.declared.sighting.Sighting.{Sighting}
use Rattle.audit_model.specs.Breach.{sight_cmp}
use Rattle.audit_model.specs.Window.{later}
use Rattle.audit_sightings.specs.Intake.{Taken, sighting_at, interface_at}
use Rattle.audit_whole.proofs.Placement.{in_row, of_row}
use Rattle.audit_segments.specs.Alike.{is_placed}
use Rattle.audit_segments.proofs.States.{placed_below, unplaced_from, from_unplaced}
use Rattle.audit_machine.specs.Judged.{IsOpenUntil}

abbrev pub at_sight : List (SightId × ℕ) → SightId → Option ℕ
at_sight entries s = lookup (is_at (sight_cmp s)) entries

module _ (hold least new : ℕ) (v : ℕ) (fewer : new ≤ least) (own : new ≤ later v hold) where
  first_or_rest : (b : Bool) (rest : Option ℕ) (came : ℕ) → cond b (Some v) rest ≡ Some came → (rest ≡ Some came) ⊎ (new ≤ later came hold)
  first_or_rest true rest came h = inr (subst (λ (n : ℕ). new ≤ later n hold) (same_Some v came h) own)
  first_or_rest false rest came h = inl h

  -- a moment is among those that are left, or its hold ends no earlier than the new least end
  pub left_or_later : (k : SightId) (rest : List (SightId × ℕ)) (s : SightId) (came : ℕ) → (at_sight ((k, v) ∷ rest) s ≡ Some came) ⊎ (least ≤ later came hold) → (at_sight rest s ≡ Some came) ⊎ (new ≤ later came hold)
  left_or_later k rest s came (inl h) = first_or_rest (is_at (sight_cmp s) k) (at_sight rest s) came h
  left_or_later k rest s came (inr h) = inr (omega (arith, fewer, h))

-- a placed sighting of an interface is there if the interface has as many
pub row_there : (taken : Taken) (placed : ℕ → ℕ) (iface : ℕ) → placed iface ≤ length (interface_at taken iface) → (s : SightId) → s.iface ≡ iface → is_placed placed s ≡ true → is_some (sighting_at taken s) ≡ true
row_there taken placed iface le s same is = elim ((slice_get_cases (interface_at taken s.iface) s.index).1) [
  | inl x ↦ ap is_some (of_row taken s.iface s.index x.0 x.2)
  | inr past ↦ absurd (omega (arith, past.0, placed_below placed s is, subst (λ k. placed k ≤ length (interface_at taken k)) (sym same) le))
]

-- the sighting at a place is the one that is read there
pub read_at : (row : List Sighting) (index : ℕ) (x read : Sighting) → read ≡ slice_index_or row index read → slice_get row index ≡ Some x → read ≡ x
read_at row index x read is h = is ∙ get_or_from_slice_get row index x read h

pub at_place : (row : List Sighting) (index : ℕ) (read : Sighting) → index < length row → read ≡ slice_index_or row index read → slice_get row index ≡ Some read
at_place row index read lt is = slice_get-get_or row index read lt ∙ ap Some (sym is)

module _ (taken : Taken) (placed : ℕ → ℕ) (iface index : ℕ) (read : Sighting) (from : placed iface ≤ index) (there : slice_get (interface_at taken iface) index ≡ Some read) where
  -- the window of a sighting that isn't placed ends there
  pub open_until : IsOpenUntil taken placed read.hi
  open_until = (record { iface = iface; index = index }, read, of_row taken iface index read there, from_unplaced placed (record { iface = iface; index = index }) from, refl)

  -- the earliest end up to a place, and with that at the place
  pub each_until : (least new : ℕ) → new ≤ least → new ≤ read.hi → ((j : ℕ) (x : Sighting) → placed iface ≤ j → j < index → slice_get (interface_at taken iface) j ≡ Some x → least ≤ x.hi)
      → (j : ℕ) (x : Sighting) → placed iface ≤ j → j < index + 1 → slice_get (interface_at taken iface) j ≡ Some x → new ≤ x.hi
  each_until least new fewer own each j x le lt is = elim (cases_lt j index) [
    | inl before ↦ omega (arith, fewer, each j x le before is)
    | inr past ↦
        let at : j ≡ index = omega (arith, past, lt) in
        let same : read ≡ x = same_Some read x (sym there ∙ ap (slice_get (interface_at taken iface)) (sym at) ∙ is) in
        subst (λ (y : Sighting). new ≤ y.hi) same own
  ]

-- the window of a sighting of the interface that isn't placed ends no earlier
pub each_open : (taken : Taken) (placed : ℕ → ℕ) (iface end least : ℕ) → length (interface_at taken iface) ≤ end → ((j : ℕ) (x : Sighting) → placed iface ≤ j → j < end → slice_get (interface_at taken iface) j ≡ Some x → least ≤ x.hi)
    → (s : SightId) (x : Sighting) → s.iface ≡ iface → sighting_at taken s ≡ Some x → is_placed placed s ≡ false → least ≤ x.hi
each_open taken placed iface end least all each s x same is unplaced =
    let there : slice_get (interface_at taken iface) s.index ≡ Some x = subst (λ k. slice_get (interface_at taken k) s.index ≡ Some x) same (in_row taken s x is) in
    each s.index x (subst (λ k. placed k ≤ s.index) same (unplaced_from placed s unplaced)) (omega (arith, all, slice_get_within (interface_at taken iface) s.index x there)) there

-- the lesser of two
abbrev pub IsLesser : ℕ → ℕ → ℕ → Type 0
IsLesser one other n = ((n ≡ one) × (one ≤ other)) ⊎ ((n ≡ other) × (other ≤ one))

pub lesser_both : (one other n : ℕ) → IsLesser one other n → (n ≤ one) × (n ≤ other)
lesser_both one other n (inl h) = (omega (arith, h.0), omega (arith, h.0, h.1))
lesser_both one other n (inr h) = (omega (arith, h.0, h.1), omega (arith, h.0))

-- what holds of both holds of the lesser
pub lesser_is : (P : ℕ → Type 0) (one other n : ℕ) → IsLesser one other n → P one → P other → P n
lesser_is P one other n (inl h) first second = subst P (sym h.0) first
lesser_is P one other n (inr h) first second = subst P (sym h.0) second
