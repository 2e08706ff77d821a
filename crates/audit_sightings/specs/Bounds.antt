-- The invariant of an intake: its limits, and numbers that fit the types of its sightings.
use Rattle.std.specs.Prelude.{◌≡◌, ◌≤◌, Some, length}
use Rattle.audit_model.specs.declared.sighting.SightId.{SightId}
use Rattle.audit_model.specs.declared.sighting.Sighting.{Sighting}
use Rattle.audit_sightings.specs.declared.by_interface.TheConstants.{MAX_SIGHTINGS}
use Rattle.audit_sightings.specs.ByInterface.{count_of, SightingFits}
use Rattle.audit_sightings.specs.Intake.{Taken, sighting_at}

pub record IsBounded (taken : Taken) : Type 0 where
  pub few_interfaces : length taken.interfaces ≤ 1024
  pub few : count_of taken.interfaces ≤ MAX_SIGHTINGS
  pub fits : (id : SightId) (s : Sighting) → sighting_at taken id ≡ Some s → SightingFits s
