-- A table of leases as a function from a key to its value. Keys are the same if their order says
-- so.
use Rattle.std.specs.Prelude.{Bool, List, Option, None, Some, if◌then◌else◌, ◌≡◌}
use Rattle.std.specs.declared.cmp.Ordering.{Ordering}
use Rattle.std.specs.Option.{option_and_then}
use Rattle.std.specs.Ordering.{is_eq}
use Rattle.std.specs.List.{list_any}
use Rattle.std.specs.Map.{lookup}

-- whether two keys are the same
abbrev pub is_same : {K : Type 0} → (K → K → Ordering) → K → K → Bool
is_same order one other = is_eq (order one other)

module _ {K V : Type 0} (order : K → K → Ordering) where
  -- the value of the table at a key
  abbrev pub value_at : List (K × V) → K → Option V
  value_at table key = lookup (is_same order key) table

  -- the new table has the value at this key, and at each other key that of the old one
  abbrev pub Puts : List (K × V) → List (K × V) → K → V → Type 0
  Puts old new key value = (q : K) → value_at new q ≡ (if is_same order key q then Some value else value_at old q)

  -- the new table has the value at each of these keys, and at each other key that of the old one
  abbrev pub PutsAll : List (K × V) → List (K × V) → List K → V → Type 0
  PutsAll old new keys value = (q : K) → value_at new q ≡ (if list_any (λ key. is_same order key q) keys then Some value else value_at old q)

  -- the new table has no value at this key, and at each other key that of the old one
  abbrev pub Removes : List (K × V) → List (K × V) → K → Type 0
  Removes old new key = (q : K) → value_at new q ≡ (if is_same order key q then None else value_at old q)

  -- the new table has the values of the old one that pass the test
  abbrev pub Keeps : List (K × V) → List (K × V) → (V → Bool) → Type 0
  Keeps old new keep = (q : K) → value_at new q ≡ option_and_then (λ value. if keep value then Some value else None) (value_at old q)

  -- some key has a value with the property
  abbrev pub Somewhere : List (K × V) → (K → V → Type 0) → Type 0
  Somewhere table Fact = (key : K) × (value : V) × (value_at table key ≡ Some value) × Fact key value

  -- each key that has a value has the property with that value
  abbrev pub Everywhere : List (K × V) → (K → V → Type 0) → Type 0
  Everywhere table Fact = (key : K) → (value : V) → value_at table key ≡ Some value → Fact key value
