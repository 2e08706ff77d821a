-- The invariant of a certificate that was placed in portions.
use Rattle.std.specs.Prelude.{◌≡◌, ◌+◌, List, length}
use Rattle.audit_model.specs.declared.address.Addr.{Addr}
use Rattle.audit_model.specs.declared.certificate.Certificate.{Certificate}
use Rattle.audit_model.specs.declared.certificate.CertLane.{CertLane}
use Rattle.audit_model.specs.declared.lane_pairs.LanePairs.{LanePairs}
use Rattle.audit_model.specs.EventCount.{event_count}
use Rattle.audit_model.specs.LanePairs.{has}
use Rattle.audit_model.specs.Lanes.{has_pair}
use Rattle.audit_sightings.specs.Intake.{Taken}
use Rattle.audit_sightings.specs.ByInterface.{Grows}
use Rattle.audit_placement.specs.declared.places.Places.{Places}
use Rattle.audit_placement.specs.declared.places.Places.TheVariants.{Once, First}
use Rattle.audit_order.specs.declared.portions.Placing.{Placing}
use Rattle.audit_placement.specs.Clean.{IsClean}
use Rattle.audit_placement.specs.Entries.{entries}
use Rattle.audit_placement.specs.FirstPlace.{Notes}
use Rattle.audit_order.specs.Growing.{placing_count}
use Rattle.audit_placement.specs.Keys.{key_at}

-- the same intake, later: its policy, and the sightings that it had, with possibly more after those
-- of their interfaces
pub record Stays (before now : Taken) : Type 0 where
  pub policy : now.policy ≡ before.policy
  pub rows : Grows before.interfaces now.interfaces

-- the set has the pairs of the lanes
abbrev pub AreOfLanes : LanePairs → List CertLane → Type 0
AreOfLanes pairs lanes = (client listen : Addr) → has pairs client listen ≡ has_pair client listen lanes

abbrev pub AreOf : Taken → Certificate → Places → Type 0
AreOf taken certificate (Once keys) = IsClean taken (key_at keys) (entries certificate)
AreOf taken certificate (First first) = Notes certificate first (entries certificate)

-- the places of that intake's sightings are known, and the numbers of the certificate's lanes and
-- events
pub record Keeps (taken : Taken) (placing : Placing) : Type 0 where
  pub places : AreOf taken placing.certificate placing.places
  pub count : placing.count ≡ placing_count (entries placing.certificate)
  pub events : placing.events ≡ event_count placing.certificate.lanes + length placing.certificate.drops
  pub pairs : AreOfLanes placing.pairs placing.certificate.lanes
