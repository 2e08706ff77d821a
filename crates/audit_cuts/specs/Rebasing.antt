-- What stays the same if ids count from other bases, and when they can't.
use Rattle.std.specs.Prelude.{ℕ, ◌≢◌, ◌+◌, ◌<◌, ◌≤◌, ◌^◌, ◌⊎◌, ◌||◌, List, map, length, slice_get, slice_index_or, is_some, IsTrue, IsSomeAnd}
use Rattle.audit_model.specs.declared.sighting.SightId.{SightId}
use Rattle.audit_segments.specs.Shifted.{shifted}
use Rattle.audit_cuts.specs.declared.carried.Came.{Came}
use Rattle.audit_cuts.specs.declared.carried.Carried.{Carried}
use Rattle.audit_cuts.specs.declared.carried.Interface.{Interface}
use Rattle.audit_cuts.specs.declared.rebasing.RebaseError.{RebaseError}
use Rattle.audit_cuts.specs.declared.rebasing.RebaseError.TheVariants as errors
use Rattle.audit_cuts.specs.Carried.{moment_in, base_in}

abbrev pub bases_of : List Interface → List ℕ
bases_of interfaces = map (λ (i : Interface). i.base) interfaces

-- how many sightings of each interface are placed in all
abbrev pub totals : List Interface → List ℕ
totals interfaces = map (λ (i : Interface). i.base + i.placed) interfaces

-- the sightings by their ids among all that were captured, with their moments
abbrev pub absolute_times : (ℕ → ℕ) → List Came → List (SightId × ℕ)
absolute_times base times = map (λ (came : Came). (shifted base came.sight, came.moment)) times

-- an index, which counts from a base, is before the other one, or too far after it for 32 bits
abbrev pub IsUnfit : ℕ → ℕ → ℕ → Type 0
IsUnfit base index other = (base + index < other) ⊎ (other + 2 ^ 32 ≤ base + index)

-- why interfaces can't have these bases
abbrev pub AreUnfitBases : List Interface → List ℕ → RebaseError → Type 0
AreUnfitBases interfaces bases errors.Interfaces = length interfaces ≢ length bases
AreUnfitBases interfaces bases (errors.Placed iface) = IsSomeAnd (slice_get interfaces iface) (λ i. IsUnfit i.base i.placed (slice_index_or bases iface 0))
AreUnfitBases interfaces bases (errors.Sight s) = ⊥
AreUnfitBases interfaces bases errors.Memory = Unit {0}

-- why these ids can't count from other bases
abbrev pub IsUnfitTime : List Came → (base other : ℕ → ℕ) → RebaseError → Type 0
IsUnfitTime times base other errors.Interfaces = ⊥
IsUnfitTime times base other (errors.Placed iface) = ⊥
IsUnfitTime times base other (errors.Sight s) = IsTrue (is_some (moment_in times s)) × IsUnfit (base s.iface) s.index (other s.iface)
IsUnfitTime times base other errors.Memory = Unit {0}

-- why the ids of what is carried can't count from these bases
abbrev pub IsUnfitFor : Carried → List ℕ → RebaseError → Type 0
IsUnfitFor carried bases (errors.Sight s) = IsTrue (is_some (moment_in carried.waiting.items s) || is_some (moment_in carried.owed.items s))
    × IsUnfit (base_in carried.interfaces.items s.iface) s.index (slice_index_or bases s.iface 0)
IsUnfitFor carried bases errors.Interfaces = AreUnfitBases carried.interfaces.items bases errors.Interfaces
IsUnfitFor carried bases (errors.Placed iface) = AreUnfitBases carried.interfaces.items bases (errors.Placed iface)
IsUnfitFor carried bases errors.Memory = Unit {0}
