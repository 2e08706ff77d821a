-- Clean entries stay clean as the intake grows.
use Rattle.std.proofs.Common.{◌≡◌, ℕ, zero, suc, Bool, true, false, List, [], ◌∷◌, ◌++◌, Option, Some, None, refl, sym, ap, ◌∙◌}
use Rattle.std.specs.Prelude.{is_some, not, ◌||◌, slice_get, slice_index_or, option_and_then}
use Rattle.std.proofs.lemmas.Bool.{true≢false}
use Rattle.std.proofs.lemmas.List.Elements.{All-weaker}
use Rattle.std.proofs.lemmas.Option.{none-some}
use Rattle.audit_model.specs.declared.event.Event.{Event}
use Rattle.audit_model.specs.declared.event.Event.TheVariants.{In, Act, Out}
use Rattle.audit_model.specs.declared.event.Key.{Key}
use Rattle.audit_model.specs.declared.sighting.Side.{Side}
use Rattle.audit_model.specs.declared.sighting.Side.TheVariants.{Arrives, Leaves}
use Rattle.audit_model.specs.declared.sighting.SightId.{SightId}
use Rattle.audit_model.specs.declared.sighting.Sighting.{Sighting}
use Rattle.audit_sightings.specs.Intake.{Taken, sighting_at}
use Rattle.audit_sightings.specs.ByInterface.{of_interface}
use Rattle.audit_placement.specs.declared.entry.Entry.{Entry}
use Rattle.audit_model.specs.declared.pair.Pair.{Pair}
use Rattle.audit_placement.specs.Checks.{event_checks, placing_checks, act_checks, first_broken}
use Rattle.audit_placement.specs.Clean.{IsFine, IsClean}
use Rattle.audit_order.specs.Kept.{Stays}
use Rattle.audit_placement.proofs.CleanNamed.{are_held, or_false}

at_row : (rows : List (List Sighting)) (i k : ℕ) → option_and_then (λ row. slice_get row k) (slice_get rows i) ≡ slice_get (slice_index_or rows i []) k
at_row [] i k = refl
at_row (row ∷ rows) zero k = refl
at_row (row ∷ rows) (suc i) k = at_row rows i k

get_before : (xs ys : List Sighting) (k : ℕ) (x : Sighting) → slice_get xs k ≡ Some x → slice_get (xs ++ ys) k ≡ Some x
get_before [] ys k x there = absurd (none-some x there)
get_before (y ∷ xs) ys zero x there = there
get_before (y ∷ xs) ys (suc k) x there = get_before xs ys k x there

module _ (before now : Taken) (stays : Stays before now) where
  -- a sighting that was there is still there
  still_there : (sight : SightId) (x : Sighting) → sighting_at before sight ≡ Some x → sighting_at now sight ≡ Some x
  still_there sight x there =
      let grown = stays.rows sight.iface in
      at_row now.interfaces sight.iface sight.index
      ∙ ap (λ (row : List Sighting). slice_get row sight.index) grown.1
      ∙ get_before (of_interface before.interfaces sight.iface) grown.0 sight.index x (sym (at_row before.interfaces sight.iface sight.index) ∙ there)

  same_by : (sight : SightId) (o : Option Sighting) → sighting_at before sight ≡ o → is_some o ≡ true → sighting_at now sight ≡ sighting_at before sight
  same_by sight None is there = absurd (true≢false (sym there))
  same_by sight (Some x) is there = still_there sight x is ∙ sym is

  same_there : (sight : SightId) → not (is_some (sighting_at before sight)) ≡ false → sighting_at now sight ≡ sighting_at before sight
  same_there sight there = same_by sight (sighting_at before sight) refl (is_true (is_some (sighting_at before sight)) there)
    where
      is_true : (b : Bool) → not b ≡ false → b ≡ true
      is_true true is = refl
      is_true false is = absurd (true≢false is)

  placing_still : (pair : Option Pair) (last : Option Key) (side : Side) (sight : SightId) (key : Key) → first_broken (placing_checks before false pair last side sight key) ≡ None
      → first_broken (placing_checks now false pair last side sight key) ≡ None
  placing_still pair last side sight key none =
      let held = are_held (placing_checks before false pair last side sight key) none in
      rw (same_there sight held.1.0, stays.policy) none

  own_still : (pair : Option Pair) (last : Option Key) (event : Event) → first_broken (event_checks before false pair last event) ≡ None
      → first_broken (event_checks now false pair last event) ≡ None
  own_still pair last (In sight key) none = placing_still pair last Arrives sight key none
  own_still pair last (Act arrival departure key) none =
      let held = are_held (act_checks before last arrival departure key) none in
      let there = or_false (not (is_some (sighting_at before arrival))) (not (is_some (sighting_at before departure))) held.0 in
      rw (same_there arrival there.0, same_there departure there.1) none
  own_still pair last (Out sight key) none = placing_still pair last Leaves sight key none

  -- clean entries stay so
  pub clean_still : (noted : SightId → Option Key) (es : List Entry) → IsClean before noted es → IsClean now noted es
  clean_still noted es clean = record {
    fine = All-weaker (IsFine before noted) (IsFine now noted) (λ e fine. record { own = own_still e.pair e.last e.event fine.own; told = fine.told }) es clean.fine;
    once = clean.once;
    order = clean.order;
  }
