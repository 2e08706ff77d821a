-- Sightings by key, which is a digest of their content, each with its first moment, so that those
-- of one key and a range of moments are contiguous.
use Rattle.std.specs.Prelude.{◌≡◌, ℕ, ◌+◌, ◌*◌, ◌<◌, ◌≤◌, List, Some, length, slice_index_or, Contains}
use Rattle.std.specs.List.Sorted.{IsNonDecreasingBy}
use Rattle.std.specs.Hash.DefaultHasher as sip
use Rattle.audit_model.specs.declared.sighting.SightId.{SightId}
use Rattle.audit_model.specs.declared.sighting.Sighting.{Sighting}
use Rattle.audit_sightings.specs.Intake.{Taken, sighting_at}
use Rattle.audit_faults.specs.declared.keyed.Keyed.{Keyed}
use Rattle.audit_faults.specs.Shown.{IsBefore}

-- a digest: equal bytes have the same
abbrev pub digest_of : List ℕ → ℕ
digest_of bytes = sip.finish (sip.write sip.initial bytes)

-- by which places are sorted: the key, and then the moment
abbrev pub number_at : ℕ → ℕ → ℕ
number_at key moment = key * 18446744073709551616 + moment

abbrev pub number_of : Keyed → ℕ
number_of one = number_at one.key one.moment

abbrev pub placed_as : ℕ → SightId → Sighting → Keyed
placed_as key sight s = record { key = key; moment = s.lo; sight = sight }

-- the places of a key that are of these moments
abbrev pub HasKeyed : List Keyed → ℕ → ℕ → ℕ → ℕ → ℕ → Type 0
HasKeyed keyed key low high first past =
    (k : ℕ) (one : Keyed) → k < length keyed → slice_index_or keyed k one ≡ one → one.key ≡ key → low ≤ one.moment → one.moment ≤ high → (first ≤ k) × (k < past)

-- its window begins at a number of 64 bits, and is no wider than this
abbrev pub IsNarrow : ℕ → Sighting → Type 0
IsNarrow width s = (s.hi ≤ s.lo + width) × (s.lo ≤ 18446744073709551615)

module _ (taken : Taken) (Has : ℕ → Sighting → Type 0) where
  -- A sighting is listed under each key that it has.
  abbrev pub Stands : List Keyed → ℕ → ℕ → SightId → Sighting → Type 0
  Stands keyed width key sight s = Contains keyed (placed_as key sight s) × IsNarrow width s

  -- Each captured sighting has its places, and these are sorted: a sighting that isn't listed under
  -- a key doesn't have it.
  pub record IsKeyed (keyed : List Keyed) (width : ℕ) : Type 0 where
    pub sorted : IsNonDecreasingBy number_of keyed
    pub all : (key : ℕ) (sight : SightId) (s : Sighting) → sighting_at taken sight ≡ Some s → Has key s → Stands keyed width key sight s

  -- those of the sightings before one have theirs
  abbrev pub AreKeyedBefore : SightId → List Keyed → ℕ → Type 0
  AreKeyedBefore bound keyed width = (key : ℕ) (sight : SightId) (s : Sighting) → IsBefore sight bound → sighting_at taken sight ≡ Some s → Has key s → Stands keyed width key sight s
