-- Faults of a departure: no arrival explains it, by the reasons that the fault's check includes.
use Rattle.std.specs.Prelude.{◌≡◌, ◌⊎◌, ℕ, Some}
use Rattle.audit_model.specs.declared.address.Addr.{Addr}
use Rattle.audit_model.specs.declared.sighting.SightId.{SightId}
use Rattle.audit_model.specs.declared.sighting.Sighting.{Sighting}
use Rattle.audit_model.specs.declared.sighting.Side.TheVariants.{Arrives, Leaves}
use Rattle.audit_sightings.specs.Intake.{Taken, sighting_at}
use Rattle.audit_faults.specs.declared.fault.Fault.{Fault}
use Rattle.audit_faults.specs.declared.fault.Fault.TheVariants.{Unasked, Unallocated, Unpermitted, Unbound, Unfit, Unauthentic}
use Rattle.audit_faults.specs.declared.fault.Lease.{Lease}
use Rattle.audit_faults.specs.declared.fault.Lease.TheVariants.{Allocation, Permission, Channel}
use Rattle.audit_rules.specs.Keys.{KeyFor}
use Rattle.audit_faults.specs.Causes.{AnswersAnybody, IsByUser, Responds, SentOn, SentInChannel, Delivered, DeliveredInChannel, InReach}
use Rattle.audit_faults.specs.Fits.{IsFit}
use Rattle.audit_faults.specs.Grants.{IsCaptured, HasGrant}

-- none of the faults that rank before this one is shown
abbrev pub NoneBefore : (Fault → Type 0) → Fault → Type 0
NoneBefore Shown Unasked = Unit {0}
NoneBefore Shown Unallocated = Shown Unasked → ⊥
NoneBefore Shown Unpermitted = (Shown Unasked → ⊥) × (Shown Unallocated → ⊥)
NoneBefore Shown Unbound = (Shown Unasked → ⊥) × (Shown Unallocated → ⊥) × (Shown Unpermitted → ⊥)
NoneBefore Shown Unfit = (Shown Unasked → ⊥) × (Shown Unallocated → ⊥) × (Shown Unpermitted → ⊥) × (Shown Unbound → ⊥)
NoneBefore Shown Unauthentic = (Shown Unasked → ⊥) × (Shown Unallocated → ⊥) × (Shown Unpermitted → ⊥) × (Shown Unbound → ⊥) × (Shown Unfit → ⊥)

-- which leases a fault's check includes: also those of the faults before it
abbrev pub IsWanted : Fault → Lease → Type 0 → Type 0
IsWanted Unasked lease G = Unit {0}
IsWanted Unallocated (Allocation relayed) G = G
IsWanted Unallocated (Permission ip) G = Unit {0}
IsWanted Unallocated (Channel number peer) G = Unit {0}
IsWanted Unpermitted (Allocation relayed) G = G
IsWanted Unpermitted (Permission ip) G = G
IsWanted Unpermitted (Channel number peer) G = Unit {0}
IsWanted Unbound lease G = G
IsWanted Unfit lease G = G
IsWanted Unauthentic lease G = G

-- and whether a response must fit its request, and the request must be authentic by a user
abbrev pub IsProved : KeyFor → Fault → Sighting → Sighting → Type 0
IsProved key_for Unasked arrival departure = Unit {0}
IsProved key_for Unallocated arrival departure = Unit {0}
IsProved key_for Unpermitted arrival departure = Unit {0}
IsProved key_for Unbound arrival departure = Unit {0}
IsProved key_for Unfit arrival departure = IsFit arrival departure
IsProved key_for Unauthentic arrival departure = IsFit arrival departure × (AnswersAnybody departure.payload ⊎ IsByUser key_for arrival.payload)

module _ (taken : Taken) (fault : Fault) where
  -- the client has the lease, if the fault's check includes it
  abbrev pub Holds : Addr → Addr → Lease → Sighting → Sighting → Type 0
  Holds client listen lease arrival departure = IsWanted fault lease (HasGrant taken (record { client = client; listen = listen; lease = lease }) arrival departure)

  -- a Send indication's data under a permission, a client's ChannelData in its channel, a Data
  -- indication under a permission, and ChannelData to the client in its channel under a permission:
  -- each with the relayed address of the allocation (RFC 8656, sections 11 and 12)
  abbrev pub SentOnHeld : Sighting → Sighting → Type 0
  SentOnHeld arrival departure = SentOn taken.policy arrival departure × Holds arrival.from arrival.to (Allocation departure.from) arrival departure × Holds arrival.from arrival.to (Permission departure.to.ip) arrival departure

  abbrev pub SentInChannelHeld : Sighting → Sighting → Type 0
  SentInChannelHeld arrival departure =
      (number : ℕ) × SentInChannel taken.policy number arrival departure × Holds arrival.from arrival.to (Allocation departure.from) arrival departure × Holds arrival.from arrival.to (Channel number departure.to) arrival departure

  abbrev pub DeliveredHeld : Sighting → Sighting → Type 0
  DeliveredHeld arrival departure = Delivered taken.policy arrival departure × Holds departure.to departure.from (Allocation arrival.to) arrival departure × Holds departure.to departure.from (Permission arrival.from.ip) arrival departure

  abbrev pub DeliveredInChannelHeld : Sighting → Sighting → Type 0
  DeliveredInChannelHeld arrival departure =
      (number : ℕ) × DeliveredInChannel taken.policy number arrival departure × Holds departure.to departure.from (Allocation arrival.to) arrival departure
      × Holds departure.to departure.from (Permission arrival.from.ip) arrival departure × Holds departure.to departure.from (Channel number arrival.from) arrival departure

module _ (taken : Taken) (key_for : KeyFor) (fault : Fault) where
  -- a response needs no lease
  abbrev pub RespondsHeld : Sighting → Sighting → Type 0
  RespondsHeld arrival departure = Responds taken.policy arrival departure × IsProved key_for fault arrival departure

  abbrev pub Reasons : Sighting → Sighting → Type 0
  Reasons arrival departure = RespondsHeld arrival departure ⊎ SentOnHeld taken fault arrival departure ⊎ SentInChannelHeld taken fault arrival departure ⊎ DeliveredHeld taken fault arrival departure ⊎ DeliveredInChannelHeld taken fault arrival departure

  -- it arrived in time, and caused the departure with all reasons
  pub record Explains (arrival departure : Sighting) : Type 0 where
    pub arrives : arrival.side ≡ Arrives
    pub in_reach : InReach taken.policy.hold arrival departure
    pub reasons : Reasons arrival departure

  -- A departure that no captured arrival explains.
  pub record IsFault (sight : SightId) : Type 0 where
    pub departure : Sighting
    pub there : sighting_at taken sight ≡ Some departure
    pub leaves : departure.side ≡ Leaves
    pub by_none : (arrival : Sighting) → IsCaptured taken arrival → Explains arrival departure → ⊥
