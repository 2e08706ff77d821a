-- The moment from which on the newest sighting of a file may have come.
use Rattle.std.specs.Prelude.{◌≡◌, ◌≤◌, ◌/◌, ℕ, max, List, Option, Some, None, Contains, IfSome, IsSomeAnd, slice_index_or}
use Rattle.audit_model.specs.declared.sighting.Sighting.{Sighting}
use Rattle.audit_sightings.specs.ByInterface.{of_interface}

-- a sighting of the file may have come from that moment on: an interface's number divided by 64 is
-- that of its file
pub record StartsAt (interfaces : List (List Sighting)) (file moment : ℕ) : Type 0 where
  pub iface : ℕ
  pub of_file : iface / 64 ≡ file
  pub sighting : Sighting
  pub there : Contains (of_interface interfaces iface) sighting
  pub starts : sighting.lo ≡ moment

-- the greatest of these moments; none if the file has no sighting
pub record IsNewest (interfaces : List (List Sighting)) (file : ℕ) (newest : Option ℕ) : Type 0 where
  pub there : IfSome newest (StartsAt interfaces file)
  pub greatest : (moment : ℕ) → StartsAt interfaces file moment → IsSomeAnd newest (λ most. moment ≤ most)

-- the list has the newest moment of each file, by the file's number
abbrev pub AreNewest : List (List Sighting) → List (Option ℕ) → Type 0
AreNewest interfaces newest = (file : ℕ) → IsNewest interfaces file (slice_index_or newest file None)

-- the later of two moments, if there is a first
abbrev pub later_of : Option ℕ → ℕ → Option ℕ
later_of None moment = Some moment
later_of (Some before) moment = Some (max before moment)
