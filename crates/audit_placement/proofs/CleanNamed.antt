-- A clean certificate names what is there.
use Rattle.std.proofs.Common.{◌≡◌, ℕ, ◌+◌, Bool, true, false, cond, List, [], ◌∷◌, All, Option, Some, None, refl, sym}
use Rattle.std.specs.Prelude.{IsSomeAnd, is_some, not, ◌||◌}
use Rattle.std.proofs.lemmas.Bool.{true≢false}
use Rattle.std.proofs.lemmas.List.Elements.{All-nil, All-cons, All-head, All-tail}
use Rattle.std.proofs.lemmas.Option.{none-some}
use Rattle.audit_model.specs.declared.certificate.Certificate.{Certificate}
use Rattle.audit_model.specs.declared.certificate.CertLane.{CertLane}
use Rattle.audit_model.specs.declared.event.Event.{Event}
use Rattle.audit_model.specs.declared.event.Event.TheVariants.{In, Act, Out}
use Rattle.audit_model.specs.declared.event.Key.{Key}
use Rattle.audit_model.specs.declared.sighting.Side.{Side}
use Rattle.audit_model.specs.declared.sighting.Side.TheVariants.{Arrives, Leaves}
use Rattle.audit_model.specs.declared.sighting.SightId.{SightId}
use Rattle.audit_model.specs.declared.sighting.Sighting.{Sighting}
use Rattle.audit_model.specs.Event.{key_of}
use Rattle.audit_sightings.specs.Intake.{Taken, sighting_at, IsThere, NamesWhatIsThere}
use Rattle.audit_model.specs.declared.pair.Pair.{Pair}
use Rattle.audit_placement.specs.Checks.{Check, differ, goes_against, is_so, event_checks, placing_checks, act_checks, first_broken}
use Rattle.audit_placement.specs.Clean.{IsFine, IsClean}
use Rattle.audit_placement.specs.Entries.{entry_of, entries_from, lane_entries, lanes_entries, entries}
use Rattle.audit_placement.specs.Named.{AllNamed}
use Rattle.audit_placement.proofs.CleanSteps.{all_left, all_right}

-- none of the checks is broken
abbrev pub AreHeld : List Check → Type 0
AreHeld [] = Unit {0}
AreHeld (check ∷ checks) = (check.broken ≡ false) × AreHeld checks

held_by : (check : Check) (checks : List Check) (broken : Bool) → check.broken ≡ broken → (first_broken checks ≡ None → AreHeld checks)
    → cond broken (Some (check.rule, check.sight)) (first_broken checks) ≡ None → AreHeld (check ∷ checks)
held_by check checks true is rest none = absurd (none-some _ (sym none))
held_by check checks false is rest none = (is, rest none)

pub are_held : (checks : List Check) → first_broken checks ≡ None → AreHeld checks
are_held [] none = tt
are_held (check ∷ checks) none = held_by check checks check.broken refl (are_held checks) none

side_same : (one other : Side) → differ one other ≡ false → one ≡ other
side_same Arrives Arrives is = refl
side_same Arrives Leaves is = absurd (true≢false is)
side_same Leaves Arrives is = absurd (true≢false is)
side_same Leaves Leaves is = refl

-- a sighting that is there, and goes that way
there_by : (side : Side) (o : Option Sighting) → not (is_some o) ≡ false → is_so o (goes_against side) ≡ false → IsSomeAnd o (λ (s : Sighting). s.side ≡ side)
there_by side None there way = absurd (true≢false there)
there_by side (Some sighting) there way = side_same sighting.side side way

pub or_false : (a b : Bool) → (a || b) ≡ false → (a ≡ false) × (b ≡ false)
or_false true b is = absurd (true≢false is)
or_false false b is = (refl, is)

module _ (taken : Taken) (pair : Option Pair) (last : Option Key) where
  placing_named : (side : Side) (sight : SightId) (key : Key) → first_broken (placing_checks taken false pair last side sight key) ≡ None → IsThere taken side sight
  placing_named side sight key none =
      let (_, (there, (_, (_, (way, _))))) = are_held (placing_checks taken false pair last side sight key) none in
      there_by side (sighting_at taken sight) there way

  -- an event that breaks no rule names what is there
  pub own_named : (event : Event) → first_broken (event_checks taken false pair last event) ≡ None → NamesWhatIsThere taken event
  own_named (In sight key) none = placing_named Arrives sight key none
  own_named (Act arrival departure key) none =
      let held = are_held (act_checks taken last arrival departure key) none in
      let there = or_false (not (is_some (sighting_at taken arrival))) (not (is_some (sighting_at taken departure))) held.0 in
      let ways = or_false (is_so (sighting_at taken arrival) (goes_against Arrives)) (is_so (sighting_at taken departure) (goes_against Leaves)) held.1.1.0 in
      (there_by Arrives (sighting_at taken arrival) there.0 ways.0, there_by Leaves (sighting_at taken departure) there.1 ways.1)
  own_named (Out sight key) none = placing_named Leaves sight key none

module _ (taken : Taken) (noted : SightId → Option Key) where
  from_named : (pair : Option Pair) (lane place : ℕ) (last : Option Key) (events : List Event) → All (IsFine taken noted) (entries_from pair lane place last events)
      → All (NamesWhatIsThere taken) events
  from_named pair lane place last [] all = All-nil (NamesWhatIsThere taken)
  from_named pair lane place last (event ∷ events) all =
      let entry = entry_of pair lane place last event in
      let others = entries_from pair lane (place + 1) (Some (key_of event)) events in
      All-cons (NamesWhatIsThere taken) event events (own_named taken pair last event (All-head (IsFine taken noted) entry others all).own)
      (from_named pair lane (place + 1) (Some (key_of event)) events (All-tail (IsFine taken noted) entry others all))

  lanes_named : (number : ℕ) (lanes : List CertLane) → All (IsFine taken noted) (lanes_entries number lanes) → All (λ lane. All (NamesWhatIsThere taken) lane.events) lanes
  lanes_named number [] all = All-nil (λ (lane : CertLane). All (NamesWhatIsThere taken) lane.events)
  lanes_named number (lane ∷ lanes) all =
      All-cons (λ (l : CertLane). All (NamesWhatIsThere taken) l.events) lane lanes
      (from_named (Some (record { client = lane.client; listen = lane.listen })) number 0 None lane.events
      (all_left (IsFine taken noted) (lane_entries number lane) (lanes_entries (number + 1) lanes) all))
      (lanes_named (number + 1) lanes (all_right (IsFine taken noted) (lane_entries number lane) (lanes_entries (number + 1) lanes) all))

  -- a clean certificate names what is there
  pub clean_named : (certificate : Certificate) → IsClean taken noted (entries certificate) → AllNamed taken certificate
  clean_named certificate clean = lanes_named 0 certificate.lanes (all_left (IsFine taken noted) (lanes_entries 0 certificate.lanes) _ clean.fine)
