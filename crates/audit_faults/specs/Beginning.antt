-- Whether the captures show that a client whose datagram may have caused a departure was ever
-- granted the leases that it needs. Here no lease expires, and one from before the captures doesn't
-- count.
use Rattle.std.specs.Prelude.{◌≡◌, ◌⊎◌, ◌≤◌, ℕ}
use Rattle.audit_model.specs.declared.address.Addr.{Addr}
use Rattle.audit_model.specs.declared.sighting.Sighting.{Sighting}
use Rattle.audit_model.specs.declared.sighting.Side.TheVariants.{Arrives, Leaves}
use Rattle.audit_stun.specs.declared.class.Class.TheVariants.{Success}
use Rattle.audit_stun.specs.Parts.{parts_of}
use Rattle.audit_sightings.specs.Intake.{Taken}
use Rattle.audit_rules.specs.Situation.{IsOf}
use Rattle.audit_faults.specs.declared.fault.Fault.{Fault}
use Rattle.audit_faults.specs.declared.fault.Fault.TheVariants.{Unallocated}
use Rattle.audit_faults.specs.declared.fault.Grant.{Grant}
use Rattle.audit_faults.specs.declared.fault.Lease.{Lease}
use Rattle.audit_faults.specs.declared.fault.Lease.TheVariants.{Allocation, Permission, Channel}
use Rattle.audit_faults.specs.Causes.{SentOn, SentInChannel, Delivered, DeliveredInChannel, InReach}
use Rattle.audit_faults.specs.Explains.{IsWanted}
use Rattle.audit_faults.specs.Grants.{IsCaptured, IsRequestFor, HasAddressOf}

-- A request of the client for the lease that may have come by then, and its success response, which
-- left no earlier. How long the lease lasts isn't checked.
pub record IsGrantedBy (until : ℕ) (grant : Grant) (request success : Sighting) : Type 0 where
  pub arrives : request.side ≡ Arrives
  pub from : request.from ≡ grant.client
  pub to : request.to ≡ grant.listen
  pub by : request.lo ≤ until
  pub for_lease : IsRequestFor grant.lease request.payload
  pub leaves : success.side ≡ Leaves
  pub back_from : success.from ≡ grant.listen
  pub back_to : success.to ≡ grant.client
  pub after : request.lo ≤ success.hi
  pub succeeds : IsOf success.payload Success (parts_of request.payload).method
  pub same_id : (parts_of success.payload).tid ≡ (parts_of request.payload).tid
  pub has_address : HasAddressOf grant.lease success.payload

module _ (taken : Taken) where
  -- both were captured
  abbrev pub WasGranted : ℕ → Grant → Type 0
  WasGranted until grant = (request : Sighting) × IsCaptured taken request × ((success : Sighting) × IsCaptured taken success × IsGrantedBy until grant request success)

  module _ (fault : Fault) (until : ℕ) where
    -- the client was granted the lease, if the fault's check includes it
    abbrev pub WasWanted : Addr → Addr → Lease → Type 0
    WasWanted client listen lease = IsWanted fault lease (WasGranted until (record { client = client; listen = listen; lease = lease }))

    -- a client's data to a peer, and a peer's data to a client, each with the leases that it needs
    abbrev pub SentOnOnce : Sighting → Sighting → Type 0
    SentOnOnce arrival departure = SentOn taken.policy arrival departure × WasWanted arrival.from arrival.to (Allocation departure.from) × WasWanted arrival.from arrival.to (Permission departure.to.ip)

    abbrev pub SentInChannelOnce : Sighting → Sighting → Type 0
    SentInChannelOnce arrival departure = (number : ℕ) × SentInChannel taken.policy number arrival departure × WasWanted arrival.from arrival.to (Allocation departure.from) × WasWanted arrival.from arrival.to (Channel number departure.to)

    abbrev pub DeliveredOnce : Sighting → Sighting → Type 0
    DeliveredOnce arrival departure = Delivered taken.policy arrival departure × WasWanted departure.to departure.from (Allocation arrival.to) × WasWanted departure.to departure.from (Permission arrival.from.ip)

    abbrev pub DeliveredInChannelOnce : Sighting → Sighting → Type 0
    DeliveredInChannelOnce arrival departure =
        (number : ℕ) × DeliveredInChannel taken.policy number arrival departure × WasWanted departure.to departure.from (Allocation arrival.to) × WasWanted departure.to departure.from (Permission arrival.from.ip)
        × WasWanted departure.to departure.from (Channel number arrival.from)

    -- the arrival came in time, and may have caused the departure, for a client that was granted
    -- those leases by then
    abbrev pub Begins : Sighting → Sighting → Type 0
    Begins departure arrival = (arrival.side ≡ Arrives) × InReach taken.policy.hold arrival departure × (SentOnOnce arrival departure ⊎ SentInChannelOnce arrival departure ⊎ DeliveredOnce arrival departure ⊎ DeliveredInChannelOnce arrival departure)

    abbrev pub WasBegun : Sighting → Type 0
    WasBegun departure = (arrival : Sighting) × IsCaptured taken arrival × Begins departure arrival

  -- the allocation's beginning was captured: an Allocate success response granted that relayed
  -- address to a client whose datagram may have caused the departure, and its request may precede
  -- the departure
  abbrev pub HasBeginning : Sighting → Type 0
  HasBeginning departure = WasBegun Unallocated departure.hi departure
