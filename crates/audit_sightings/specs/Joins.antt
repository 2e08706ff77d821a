-- Sightings of some files, and of others after them.
use Rattle.std.specs.Prelude.{◌≡◌, ℕ, ◌+◌, ◌<◌, ◌≤◌, max, List, length}
use Rattle.audit_model.specs.declared.sighting.Sighting.{Sighting}
use Rattle.audit_sightings.specs.ByInterface.{of_interface, count_of, IsTight}

-- below an interface's number as before, and from there on as in the other list
pub record Joins (first : ℕ) (old other new : List (List Sighting)) : Type 0 where
  pub below : (iface : ℕ) → iface < first → of_interface new iface ≡ of_interface old iface
  pub behind : (iface : ℕ) → first ≤ iface → of_interface new iface ≡ of_interface other iface
  pub fewer : count_of new ≤ count_of old + count_of other
  pub few : length new ≤ max (length old) (length other)
  pub tight : length old ≤ first → IsTight old → IsTight other → IsTight new
