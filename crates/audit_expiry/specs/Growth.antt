-- Keys added to a table one by one, so that they can be removed again.
use Rattle.std.specs.Prelude.{List, [], ◌∷◌, ◌++◌, None, false, ◌≡◌, MatchOption, IsSome, All}
use Rattle.std.specs.declared.cmp.Ordering.{Ordering}
use Rattle.std.specs.List.{list_any}
use Rattle.std.specs.BTreeMap.{insert_entry}
use Rattle.audit_expiry.specs.Leases.{is_same, value_at, Puts}

module _ {K V : Type 0} (order : K → K → Ordering) where
  -- a key that is new gets the value and is noted; one that is there is unchanged
  abbrev pub Adds : List (K × V) → List (K × V) → K → V → List K → List K → Type 0
  Adds old new key value noted noted' =
      MatchOption (value_at order old key) ((new ≡ insert_entry order old key value) × Puts order old new key value × (noted' ≡ noted ++ key ∷ []))
      (λ _. (new ≡ old) × (noted' ≡ noted))

  -- the table after these keys, each of them new, were added in turn with one value
  abbrev pub Grew : V → List (K × V) → List K → List (K × V) → Type 0
  Grew value before [] after = after ≡ before
  Grew value before (key ∷ keys) after = (value_at order before key ≡ None) × Grew value (insert_entry order before key value) keys after

  -- each of the keys has a value
  abbrev pub HasEach : List (K × V) → List K → Type 0
  HasEach table keys = All (λ key. IsSome (value_at order table key)) keys

  -- the value of a key that is not among these is unchanged
  abbrev pub KeepsOthers : List (K × V) → List (K × V) → List K → Type 0
  KeepsOthers old new keys = (q : K) → list_any (λ key. is_same order key q) keys ≡ false → value_at order new q ≡ value_at order old q
