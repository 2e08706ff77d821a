-- Sightings by interface: a list of them for each interface's number.
use Rattle.std.specs.Prelude.{◌≡◌, ◌≢◌, ℕ, ◌+◌, ◌<◌, ◌≤◌, ◌^◌, List, [], ◌∷◌, ◌++◌, length, sum_by, Some, slice_get, slice_index_or}
use Rattle.audit_model.specs.declared.sighting.Sighting.{Sighting}
use Rattle.audit_model.specs.Fits.{AddrFits}

-- the sightings of an interface; none if there is no such interface
abbrev pub of_interface : List (List Sighting) → ℕ → List Sighting
of_interface interfaces iface = slice_index_or interfaces iface []

abbrev pub count_of : List (List Sighting) → ℕ
count_of interfaces = sum_by length interfaces

-- each sighting has the id of its place
abbrev pub IsNumbered : ℕ → List Sighting → Type 0
IsNumbered iface interface = (index : ℕ) (sighting : Sighting) → slice_get interface index ≡ Some sighting → sighting.id ≡ record { iface = iface; index = index }

abbrev pub AreBytes : List ℕ → Type 0
AreBytes bytes = (i : ℕ) → slice_index_or bytes i 0 < 256

-- moments have 64 bits, and payloads are bytes
abbrev pub SightingFits : Sighting → Type 0
SightingFits sighting = (sighting.hi < 2 ^ 64) × AddrFits sighting.from × AddrFits sighting.to × AreBytes sighting.payload

abbrev pub EachFits : List Sighting → Type 0
EachFits interface = (index : ℕ) (sighting : Sighting) → slice_get interface index ≡ Some sighting → SightingFits sighting

-- the last interface is not empty
abbrev pub IsTight : List (List Sighting) → Type 0
IsTight interfaces = (last : ℕ) → length interfaces ≡ last + 1 → of_interface interfaces last ≢ []

-- the invariant of the interfaces' numbers
pub record AreByInterface (interfaces : List (List Sighting)) (count : ℕ) : Type 0 where
  pub counted : count ≡ count_of interfaces
  pub few : count ≤ 16777216
  pub few_interfaces : length interfaces ≤ 1024
  pub numbered : (iface : ℕ) → IsNumbered iface (of_interface interfaces iface)
  pub fits : (iface : ℕ) → EachFits (of_interface interfaces iface)

-- one more sighting, after the others of its interface
pub record Adds (old : List (List Sighting)) (iface : ℕ) (sighting : Sighting) (new : List (List Sighting)) : Type 0 where
  pub interface : of_interface new iface ≡ of_interface old iface ++ sighting ∷ []
  pub others : (other : ℕ) → other ≢ iface → of_interface new other ≡ of_interface old other
  pub count : count_of new ≡ count_of old + 1
  pub tight : IsTight old → IsTight new

-- sightings that were added stay unchanged
abbrev pub Grows : List (List Sighting) → List (List Sighting) → Type 0
Grows old new = (iface : ℕ) → (more : List Sighting) × (of_interface new iface ≡ of_interface old iface ++ more)
