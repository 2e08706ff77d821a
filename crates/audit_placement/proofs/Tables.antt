-- A table of values, as one of its places is set.
use Rattle.std.proofs.Common.{◌≡◌, ◌<◌, ◌≤◌, ℕ, Bool, true, false, cond, eqb, ◌&&◌, List, Option, Some, None, length, get_or, refl, sym, ap, ◌∙◌, inl, inr, arith, length-set}
use Rattle.std.specs.Prelude.{slice_get, slice_set, option_and_then}
use Rattle.std.specs.Global.{Vec}
use Rattle.std.specs.Vec.{with_item}
use Rattle.std.proofs.lemmas.Bool.{cases_lt, eqb-true}
use Rattle.std.proofs.lemmas.Bool.Decides.{eqb_tells}
use Rattle.std.proofs.lemmas.Grind.{get_or-set_at}
use Rattle.std.proofs.lemmas.List.{get_or-set_other, get_or_default}
use Rattle.std.proofs.lemmas.Option.{slice_get-get_or, slice_get_past}

pub get_set : {X : Type 0} (xs : List X) (i j : ℕ) (y : X) → i < length xs → slice_get (slice_set xs i y) j ≡ cond (eqb i j) (Some y) (slice_get xs j)
get_set xs i j y within = elim (eqb_tells i j) [
  | inl is ↦
      let inside : j < length (slice_set xs i y) = omega (arith, within, is.1, length-set xs i y) in
      rw is.0 (slice_get-get_or (slice_set xs i y) j y inside ∙ ap Some (get_or-set_at xs i j y y (sym is.1) within))
  | inr is ↦ rw is.0 (elim (cases_lt j (length xs)) [
    | inl below ↦
        let inside : j < length (slice_set xs i y) = omega (arith, below, length-set xs i y) in
        slice_get-get_or (slice_set xs i y) j y inside ∙ ap Some (get_or-set_other xs i j y y (λ same. is.1 (sym same))) ∙ sym (slice_get-get_or xs j y below)
    | inr past ↦
        let outside : length (slice_set xs i y) ≤ j = omega (arith, past, length-set xs i y) in
        slice_get_past (slice_set xs i y) j outside ∙ sym (slice_get_past xs j past)
  ])
]

-- what the table has at a place
abbrev pub place_of : {X : Type 0} → List (Vec X) → ℕ → ℕ → Option X
place_of by_interface i k = option_and_then (λ values. slice_get values.items k) (slice_get by_interface i)

module _ {X : Type 0} (by_interface : List (Vec X)) (i k : ℕ) (values : Vec X) (x : X) (inside : i < length by_interface) (is : values ≡ get_or by_interface i values) (within : k < length values.items) where
  there : slice_get by_interface i ≡ Some values
  there = slice_get-get_or by_interface i values inside ∙ ap Some (sym is)

  pub place_is : place_of by_interface i k ≡ Some (get_or values.items k x)
  place_is = ap (option_and_then (λ (r : Vec X). slice_get r.items k)) there ∙ slice_get-get_or values.items k x within

  or_blank_at : (j l : ℕ) (same_row : Bool) → eqb i j ≡ same_row → (same_row ≡ true → i ≡ j)
      → option_and_then (λ (r : Vec X). slice_get r.items l) (cond same_row (Some (with_item values k x)) (slice_get by_interface j))
      ≡ cond (same_row && eqb k l) (Some x) (place_of by_interface j l)
  or_blank_at j l false _ apart = refl
  or_blank_at j l true _ same =
      get_set values.items k l x within
      ∙ ap (cond (eqb k l) (Some x)) (sym (ap (λ (n : ℕ). place_of by_interface n l) (sym (same refl)) ∙ ap (option_and_then (λ (r : Vec X). slice_get r.items l)) there))

  pub place_set : (j l : ℕ) → place_of (slice_set by_interface i (with_item values k x)) j l ≡ cond (eqb i j && eqb k l) (Some x) (place_of by_interface j l)
  place_set j l =
      ap (option_and_then (λ (r : Vec X). slice_get r.items l)) (get_set by_interface i j (with_item values k x) inside)
      ∙ or_blank_at j l (eqb i j) refl (eqb-true i j)

-- no such values, or no such place in it
pub place_past : {X : Type 0} (by_interface : List (Vec X)) (i k : ℕ) → length by_interface ≤ i → place_of by_interface i k ≡ None
place_past by_interface i k past = ap (option_and_then (λ r. slice_get r.items k)) (slice_get_past by_interface i past)

pub place_past_values : {X : Type 0} (by_interface : List (Vec X)) (i k : ℕ) (values : Vec X) → i < length by_interface → values ≡ get_or by_interface i values → length values.items ≤ k → place_of by_interface i k ≡ None
place_past_values by_interface i k values inside is past =
    ap (option_and_then (λ r. slice_get r.items k)) (slice_get-get_or by_interface i values inside ∙ ap Some (sym is)) ∙ slice_get_past values.items k past

-- two ways to name one values
pub same_length : {X : Type 0} (by_interface : List (Vec X)) (i : ℕ) (values other : Vec X) → i < length by_interface → values ≡ get_or by_interface i values → other ≡ get_or by_interface i other → length values.items ≡ length other.items
same_length by_interface i values other inside is too = ap (λ r. length r.items) (is ∙ get_or_default by_interface i values other inside ∙ sym too)
