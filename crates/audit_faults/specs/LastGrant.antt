-- A success response that granted the lease which a departure lacked, and had expired.
use Rattle.std.specs.Prelude.{◌≡◌, ◌⊎◌, ◌+◌, ◌<◌, ℕ, Some}
use Rattle.audit_model.specs.declared.policy.Policy.{Policy}
use Rattle.audit_model.specs.declared.sighting.SightId.{SightId}
use Rattle.audit_model.specs.declared.sighting.Sighting.{Sighting}
use Rattle.audit_model.specs.declared.sighting.Side.TheVariants.{Arrives}
use Rattle.audit_model.specs.Window.{later}
use Rattle.audit_sightings.specs.Intake.{Taken, sighting_at}
use Rattle.audit_rules.specs.Allocating.{seconds_after}
use Rattle.audit_faults.specs.declared.fault.Fault.{Fault}
use Rattle.audit_faults.specs.declared.fault.Fault.TheVariants.{Unasked, Unallocated, Unpermitted, Unbound, Unfit, Unauthentic}
use Rattle.audit_faults.specs.declared.fault.Grant.{Grant}
use Rattle.audit_faults.specs.declared.fault.LastGrant.{LastGrant}
use Rattle.audit_faults.specs.declared.fault.Lease.TheVariants.{Permission, Channel}
use Rattle.audit_faults.specs.Causes.{SentOn, SentInChannel, Delivered, DeliveredInChannel, InReach}
use Rattle.audit_faults.specs.Beginning.{IsGrantedBy}
use Rattle.audit_faults.specs.Grants.{IsCaptured}

-- how long the lease lasts that the departure lacked: a permission, or a channel (RFC 8656,
-- sections 9 and 12)
abbrev pub seconds_of : Fault → ℕ
seconds_of Unasked = 0
seconds_of Unallocated = 0
seconds_of Unpermitted = 300
seconds_of Unbound = 600
seconds_of Unfit = 0
seconds_of Unauthentic = 0

module _ (policy : Policy) where
  -- the permission that a departure requires if it was sent for an arrival: for the peer's IP, of
  -- the client that sent the data or receives it (RFC 8656, section 9)
  abbrev pub NeedsPermission : Sighting → Sighting → Grant → Type 0
  NeedsPermission arrival departure grant =
      (SentOn policy arrival departure × (grant ≡ record { client = arrival.from; listen = arrival.to; lease = Permission departure.to.ip }))
      ⊎ ((Delivered policy arrival departure ⊎ ((number : ℕ) × DeliveredInChannel policy number arrival departure)) × (grant ≡ record { client = departure.to; listen = departure.from; lease = Permission arrival.from.ip }))

  -- the channel, bound to the peer (RFC 8656, section 12)
  abbrev pub NeedsChannel : Sighting → Sighting → Grant → Type 0
  NeedsChannel arrival departure grant =
      ((number : ℕ) × SentInChannel policy number arrival departure × (grant ≡ record { client = arrival.from; listen = arrival.to; lease = Channel number departure.to }))
      ⊎ ((number : ℕ) × DeliveredInChannel policy number arrival departure × (grant ≡ record { client = departure.to; listen = departure.from; lease = Channel number arrival.from }))

  abbrev pub Needs : Fault → Sighting → Sighting → Grant → Type 0
  Needs Unasked arrival departure grant = ⊥
  Needs Unallocated arrival departure grant = ⊥
  Needs Unpermitted arrival departure grant = NeedsPermission arrival departure grant
  Needs Unbound arrival departure grant = NeedsChannel arrival departure grant
  Needs Unfit arrival departure grant = ⊥
  Needs Unauthentic arrival departure grant = ⊥

  -- the arrival is later by this time than the end of the lease that the success response granted,
  -- grace included
  abbrev pub IsOver : Fault → Sighting → Sighting → ℕ → Type 0
  IsOver fault arrival success time = (later (seconds_after success.hi (seconds_of fault)) policy.grace + time ≡ arrival.lo) × (0 < time)

-- The departure may have been sent for a captured arrival, and a captured success response granted
-- the lease that it then requires, by a request that may precede the departure. That lease had
-- expired by this time before the arrival, grace included.
pub record IsTooEarly (taken : Taken) (fault : Fault) (sight : SightId) (last : LastGrant) : Type 0 where
  pub departure : Sighting
  pub left : sighting_at taken sight ≡ Some departure
  pub arrival : Sighting
  pub here : sighting_at taken last.arrival ≡ Some arrival
  pub arrives : arrival.side ≡ Arrives
  pub in_reach : InReach taken.policy.hold arrival departure
  pub grant : Grant
  pub needs : Needs taken.policy fault arrival departure grant
  pub request : Sighting
  pub captured : IsCaptured taken request
  pub success : Sighting
  pub there : sighting_at taken last.success ≡ Some success
  pub grants : IsGrantedBy departure.hi grant request success
  pub over : IsOver taken.policy fault arrival success last.too_early
