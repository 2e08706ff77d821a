-- The certificates of the finder.
use Rattle.std.specs.Prelude.{◌≡◌, List, [], All, map}
use Rattle.std.specs.List.Sorted.{IsSortedByKey}
use Rattle.audit_model.specs.Breach.{key_cmp}
use Rattle.audit_model.specs.Event.{key_of}
use Rattle.audit_model.specs.declared.address.Addr.{Addr}
use Rattle.audit_model.specs.declared.certificate.Certificate.{Certificate}
use Rattle.audit_model.specs.declared.certificate.CertDrop.{CertDrop}
use Rattle.audit_model.specs.declared.certificate.CertLane.{CertLane}
use Rattle.audit_model.specs.declared.sighting.Side.TheVariants.{Arrives}
use Rattle.audit_sightings.specs.Intake.{Taken, IsThere, NamesWhatIsThere}
use Rattle.audit_clients.specs.Clients.{clients_of}

-- a lane's client and listen address
abbrev pub pair_of : CertLane → Addr × Addr
pair_of lane = (lane.client, lane.listen)

-- the lane of a pair, without events
abbrev pub empty_lane : Addr × Addr → CertLane
empty_lane pair = record { events = []; client = pair.0; listen = pair.1 }

-- each event of each lane names existing sightings
abbrev pub AllNamed : Taken → List CertLane → Type 0
AllNamed taken lanes = All (λ lane. All (NamesWhatIsThere taken) lane.events) lanes

-- along a lane, no event's key is below that of the one before it
abbrev pub KeysRise : CertLane → Type 0
KeysRise lane = IsSortedByKey key_of key_cmp lane.events

-- each drop names an existing arrival
abbrev pub AreThere : Taken → List CertDrop → Type 0
AreThere taken drops = All (λ dropped. IsThere taken Arrives dropped.sight) drops

-- the property of each certificate of the finder: its lanes are the clients that the captures show,
-- and its events and drops name existing sightings
abbrev pub IsFound : Taken → Certificate → Type 0
IsFound taken certificate =
    (map pair_of certificate.lanes ≡ clients_of taken) × AllNamed taken certificate.lanes × AreThere taken certificate.drops
