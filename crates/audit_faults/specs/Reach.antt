-- The places of an interface that may be in reach of a departure.
use Rattle.std.specs.Prelude.{◌≡◌, ℕ, ◌+◌, ◌<◌, ◌≤◌, List, Some, length, slice_get, slice_index_or}
use Rattle.audit_model.specs.declared.sighting.Sighting.{Sighting}
use Rattle.audit_sightings.specs.Intake.{Taken, interface_at}
use Rattle.audit_faults.specs.declared.reach.Extents.{Extents}
use Rattle.audit_faults.specs.Causes.{InReach}

-- the sighting is at that place of a row
abbrev pub StandsAt : List Sighting → ℕ → Sighting → Type 0
StandsAt row place s = (place < length row) × (slice_index_or row place s ≡ s)

-- for each place, a moment that no sighting up to it may be later than
abbrev pub AreLatest : List Sighting → List ℕ → Type 0
AreLatest row latest = (length latest ≡ length row) × ((j k : ℕ) (s : Sighting) → j ≤ k → k < length latest → StandsAt row j s → s.hi ≤ slice_index_or latest k 0)

-- and, counted from the last place, one that no sighting from it on may be earlier than
abbrev pub AreEarliest : List Sighting → List ℕ → Type 0
AreEarliest row earliest = (length earliest ≡ length row) × ((j k : ℕ) (s : Sighting) → length row ≤ j + k + 1 → k < length earliest → StandsAt row j s → slice_index_or earliest k 0 ≤ s.lo)

-- no sighting outside of these places is in reach
abbrev pub OutsideIsOut : ℕ → Sighting → List Sighting → ℕ → ℕ → Type 0
OutsideIsOut hold departure row first past = (k : ℕ) (s : Sighting) → StandsAt row k s → InReach hold s departure → (first ≤ k) × (k < past)

-- the moments of the interfaces, each by its number, are right; if an interface has none, all of it
-- may be in reach
abbrev pub AreExtents : Taken → List Extents → Type 0
AreExtents taken extents = (iface : ℕ) (known : Extents) → slice_get extents iface ≡ Some known →
    AreLatest (interface_at taken iface) known.latest.items × AreEarliest (interface_at taken iface) known.earliest.items
