-- What is fresh of lanes, and which lanes are touched.
use Rattle.std.proofs.Common.{◌≡◌, ◌+◌, ◌<◌, ℕ, List, [], ◌∷◌, ◌++◌, IsPermutation, length, map, min, take, drop, get_or, Option, Some, refl, sym, ap, ◌∙◌, subst, append_assoc, append-nil}
use Rattle.std.proofs.Math.Dec.{eqb}
use Rattle.std.specs.Prelude.{Contains, slice_get, option_to_list}
use Rattle.std.specs.List.{flat_map, dedup}
use Rattle.std.proofs.lemmas.Grind.{flat_map-append}
use Rattle.std.proofs.lemmas.List.{take_more}
use Rattle.audit_live.specs.declared.lane.LiveLane.{LiveLane}
use Rattle.std.proofs.lemmas.List.Kept.{Contains-dedup_nat, Contains-from_dedup}
use Rattle.std.proofs.lemmas.List.Sorted.{Contains-permutation, IsPermutation-sym}
use Rattle.audit_lane.specs.Seen.{kept_of}
use Rattle.audit_model.specs.declared.event.Event.{Event}
use Rattle.audit_live.specs.CheckedTenancies.{AreTouched, fresh_at, fresh_of}
use Rattle.audit_live.specs.Holding.{runs_in}
use Rattle.audit_model.specs.declared.verdict.Tenancy.{Tenancy}

pub flat_map_next : {X A : Type 0} (f : X → List A) (xs : List X) (i : ℕ) (d : X) (so_far more : List A) → i < length xs → so_far ≡ flat_map f (take i xs)
    → more ≡ so_far ++ f (get_or xs i d) → more ≡ flat_map f (take (i + 1) xs)
flat_map_next f xs i d so_far more within is step =
    step ∙ ap (λ ys. ys ++ f (get_or xs i d)) is
    ∙ ap (λ ys. flat_map f (take i xs) ++ ys) (sym (append-nil (f (get_or xs i d))))
    ∙ sym (flat_map-append f (take i xs) (get_or xs i d ∷ [])) ∙ ap (flat_map f) (sym (take_more xs i d within))

pub fresh_there : (lanes : List LiveLane) (number : ℕ) (lane : LiveLane) → slice_get lanes number ≡ Some lane → fresh_at lanes number ≡ fresh_of lane
fresh_there lanes number lane is = ap (λ (o : Option LiveLane). flat_map fresh_of (option_to_list o)) is ∙ append-nil (fresh_of lane)

-- the same after others
pub flat_map_append : {X A : Type 0} (f : X → List A) (base : List A) (xs : List X) (i : ℕ) (d : X) (so_far more : List A) → i < length xs → so_far ≡ base ++ flat_map f (take i xs)
    → more ≡ so_far ++ f (get_or xs i d) → more ≡ base ++ flat_map f (take (i + 1) xs)
flat_map_append f base xs i d so_far more within is step =
    step ∙ ap (λ ys. ys ++ f (get_or xs i d)) is ∙ append_assoc base (flat_map f (take i xs)) (f (get_or xs i d))
    ∙ ap (λ ys. base ++ ys) (flat_map_next f xs i d (flat_map f (take i xs)) (flat_map f (take i xs) ++ f (get_or xs i d)) within refl refl)

-- all that is fresh of a lane is added
pub fresh_full : (lanes : List LiveLane) (number : ℕ) (lane : LiveLane) (so_far ended mid more : List Tenancy) (runs : Option Tenancy) → slice_get lanes number ≡ Some lane
    → ended ≡ drop (min lane.checked (length (kept_of lane.state).ended)) (kept_of lane.state).ended → runs_in lane ≡ runs → mid ≡ so_far ++ ended → more ≡ mid ++ option_to_list runs
    → more ≡ so_far ++ fresh_at lanes number
fresh_full lanes number lane so_far ended mid more runs there ended_is runs_is first second =
    second ∙ ap (λ ys. ys ++ option_to_list runs) first ∙ append_assoc so_far ended (option_to_list runs)
    ∙ ap (λ ys. so_far ++ ys) (ap (λ ys. ys ++ option_to_list runs) ended_is
    ∙ ap (λ (o : Option Tenancy). drop (min lane.checked (length (kept_of lane.state).ended)) (kept_of lane.state).ended ++ option_to_list o) (sym runs_is) ∙ sym (fresh_there lanes number lane there))

-- the numbers of events, sorted and each once
pub are_touched : (events : List (ℕ × Event)) (numbers sorted touched : List ℕ) → numbers ≡ map (λ (e : ℕ × Event). e.0) events → IsPermutation numbers sorted → touched ≡ dedup eqb sorted → AreTouched events touched
are_touched events numbers sorted touched all permuted once = λ number. (
  λ h. subst (λ (ns : List ℕ). Contains ns number) all (Contains-permutation sorted numbers number (IsPermutation-sym numbers sorted permuted)
      (Contains-from_dedup eqb sorted number (subst (λ (ns : List ℕ). Contains ns number) once h))),
  λ h. subst (λ (ns : List ℕ). Contains ns number) (sym once) (Contains-dedup_nat sorted number
      (Contains-permutation numbers sorted number permuted (subst (λ (ns : List ℕ). Contains ns number) (sym all) h))),
)
