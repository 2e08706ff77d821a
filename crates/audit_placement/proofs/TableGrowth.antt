-- A table of values, as it gets more places with the blank.
use Rattle.std.proofs.Common.{◌≡◌, ◌<◌, ℕ, zero, suc, Bool, true, false, cond, eqb, List, [], ◌∷◌, ◌++◌, length, Option, Some, get_or, refl, sym, ap, ◌∙◌, ◌+◌, append_assoc}
use Rattle.std.specs.Prelude.{slice_get, slice_set, option_and_then, replicate}
use Rattle.std.specs.Global.{Vec}
use Rattle.std.proofs.lemmas.Bool.{eqb-true}
use Rattle.std.proofs.lemmas.List.{replicate_more}
use Rattle.std.proofs.lemmas.Option.{slice_get-get_or}
use Rattle.audit_model.specs.declared.sighting.SightId.{SightId}
use Rattle.audit_placement.specs.Table.{or_blank, table_or}
use Rattle.audit_placement.proofs.Tables.{get_set}

module _ {X : Type 0} (blank : X) where
  -- places with the blank behind the others of a values
  get_more : (xs : List X) (more k : ℕ) → or_blank blank (slice_get (xs ++ replicate more blank) k) ≡ or_blank blank (slice_get xs k)
  get_more [] zero k = refl
  get_more [] (suc more) zero = refl
  get_more [] (suc more) (suc k) = get_more [] more k
  get_more (x ∷ xs) more zero = refl
  get_more (x ∷ xs) more (suc k) = get_more xs more k

  abbrev or_blank_at : ℕ → Option (Vec X) → X
  or_blank_at k values = or_blank blank (option_and_then (λ (r : Vec X). slice_get r.items k) values)

  push_at : (by_interface : List (Vec X)) (values : Vec X) (i k : ℕ) → values.items ≡ [] → or_blank_at k (slice_get (by_interface ++ values ∷ []) i) ≡ or_blank_at k (slice_get by_interface i)
  push_at [] values zero k empty = ap (λ (xs : List X). or_blank blank (slice_get xs k)) empty
  push_at [] values (suc i) k empty = refl
  push_at (r ∷ by_interface) values zero k empty = refl
  push_at (r ∷ by_interface) values (suc i) k empty = push_at by_interface values i k empty

  -- an empty list more
  pub push_empty : (by_interface : List (Vec X)) (values : Vec X) → values.items ≡ [] → (sight : SightId) → table_or blank (by_interface ++ values ∷ []) sight ≡ table_or blank by_interface sight
  push_empty by_interface values empty sight = push_at by_interface values sight.iface sight.index empty

  longer_at : (by_interface : List (Vec X)) (i : ℕ) (values longer : Vec X) (more : ℕ) → i < length by_interface → values ≡ get_or by_interface i values → longer.items ≡ values.items ++ replicate more blank
      → (j k : ℕ) (same : Bool) → eqb i j ≡ same → or_blank_at k (cond same (Some longer) (slice_get by_interface j)) ≡ or_blank_at k (slice_get by_interface j)
  longer_at by_interface i values longer more inside is grown j k false apart = refl
  longer_at by_interface i values longer more inside is grown j k true same =
      ap (λ (xs : List X). or_blank blank (slice_get xs k)) grown ∙ get_more values.items more k
      ∙ sym (ap (λ (n : ℕ). or_blank_at k (slice_get by_interface n)) (sym (eqb-true i j same)) ∙ ap (or_blank_at k) (slice_get-get_or by_interface i values inside ∙ ap Some (sym is)))

  -- a values with more places
  pub longer_values : (by_interface : List (Vec X)) (i : ℕ) (values longer : Vec X) (more : ℕ) → i < length by_interface → values ≡ get_or by_interface i values → longer.items ≡ values.items ++ replicate more blank
      → (sight : SightId) → table_or blank (slice_set by_interface i longer) sight ≡ table_or blank by_interface sight
  longer_values by_interface i values longer more inside is grown sight =
      ap (or_blank_at sight.index) (get_set by_interface i sight.iface longer inside)
      ∙ longer_at by_interface i values longer more inside is grown sight.iface sight.index (eqb i sight.iface) refl

-- one place more
pub one_blank : {X : Type 0} (old now : List X) (blank : X) (more : ℕ) → now ≡ old ++ replicate more blank → now ++ blank ∷ [] ≡ old ++ replicate (more + 1) blank
one_blank old now blank more is =
    ap (λ xs. xs ++ blank ∷ []) is ∙ append_assoc old (replicate more blank) (blank ∷ []) ∙ ap (λ xs. old ++ xs) (replicate_more more blank)
