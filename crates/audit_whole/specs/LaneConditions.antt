-- The conditions of a certificate in addition to the run: in which lane each event is, and in which
-- order.
use Rattle.std.specs.Prelude.{◌≡◌, ◌≤◌, ℕ, List, Option, Some, None, IsTrue}
use Rattle.std.specs.List.{AllByRecursion}
use Rattle.audit_model.specs.declared.certificate.CertSkew.{CertSkew}
use Rattle.audit_model.specs.declared.certificate.Certificate.{Certificate}
use Rattle.audit_model.specs.declared.event.Event.{Event}
use Rattle.audit_model.specs.declared.event.Event.TheVariants.{In, Act, Out}
use Rattle.audit_model.specs.declared.pair.Pair.{Pair}
use Rattle.audit_model.specs.declared.policy.Policy.{Policy}
use Rattle.audit_model.specs.declared.sighting.Side.{Side}
use Rattle.audit_model.specs.declared.sighting.Side.TheVariants.{Arrives, Leaves}
use Rattle.audit_model.specs.declared.sighting.Sighting.{Sighting}
use Rattle.audit_model.specs.Lanes.{same_pair}
use Rattle.audit_model.specs.Policy.{listens}
use Rattle.audit_model.specs.Skews.{nanoseconds_of, skew_of}
use Rattle.audit_model.specs.Window.{first_moment, last_moment}
use Rattle.audit_sightings.specs.Intake.{Taken, sighting_at}
use Rattle.audit_placement.specs.declared.entry.Entry.{Entry}
use Rattle.audit_placement.specs.Entries.{entries}
use Rattle.audit_server.specs.Homes.{MeetInLanes}
use Rattle.audit_server.specs.Placed.{Rises}
use Rattle.audit_server.specs.Placing.{KeysFollow}
use Rattle.audit_whole.specs.Glued.{by_lane, all_placed, glued}

-- a datagram to or from a listen address is between the lane's client and its listen address
abbrev pub IsAtEnds : Policy → Pair → Side → Sighting → Type 0
IsAtEnds policy pair Arrives s = IsTrue (listens policy s.to) → IsTrue (same_pair pair.client pair.listen s.from s.to)
IsAtEnds policy pair Leaves s = IsTrue (listens policy s.from) → IsTrue (same_pair pair.client pair.listen s.to s.from)

-- for an event of a lane of this pair, or a drop
abbrev pub AreAtEnds : Taken → Option Pair → Event → Type 0
AreAtEnds taken None event = Unit {0}
AreAtEnds taken (Some pair) (In sight key) = (s : Sighting) → sighting_at taken sight ≡ Some s → IsAtEnds taken.policy pair Arrives s
AreAtEnds taken (Some pair) (Act sight gives key) = Unit {0}
AreAtEnds taken (Some pair) (Out sight key) = (s : Sighting) → sighting_at taken sight ≡ Some s → IsAtEnds taken.policy pair Leaves s

-- the moment is in the window around the stamp by the certificate's skew of the interface, if it
-- has one
abbrev pub IsWithinSkew : Option ℕ → ℕ → Sighting → Type 0
IsWithinSkew None moment s = Unit {0}
IsWithinSkew (Some microseconds) moment s =
    (first_moment s.stamp (nanoseconds_of microseconds) ≤ moment) × (moment ≤ last_moment s.stamp (nanoseconds_of microseconds))

-- for an arrival or a departure
abbrev pub AreWithinSkew : Taken → List CertSkew → Event → Type 0
AreWithinSkew taken skews (In sight key) = (s : Sighting) → sighting_at taken sight ≡ Some s → IsWithinSkew (skew_of skews sight.iface) key.moment s
AreWithinSkew taken skews (Act sight gives key) = Unit {0}
AreWithinSkew taken skews (Out sight key) = (s : Sighting) → sighting_at taken sight ≡ Some s → IsWithinSkew (skew_of skews sight.iface) key.moment s

-- Keys rise along each interface, in each lane and in the drops; a lane's datagrams are its
-- client's; an act is in its arrival's lane, and a departure in the lane of its act; and moments
-- are within the skews of the certificate itself.
pub record LaneConditions (taken : Taken) (certificate : Certificate) : Type 0 where
  pub along : KeysFollow (all_placed certificate)
  pub rise : AllByRecursion Rises (by_lane certificate)
  pub ends : AllByRecursion (λ (e : Entry). AreAtEnds taken e.pair e.event) (entries certificate)
  pub meet : MeetInLanes (glued certificate)
  pub cuts : AllByRecursion (λ (e : Entry). AreWithinSkew taken certificate.skews e.event) (entries certificate)
