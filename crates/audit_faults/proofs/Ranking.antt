-- What a fault's check includes, those of the faults after it include too.
use Rattle.std.proofs.Common.{inl, inr}
use Rattle.audit_model.specs.declared.address.Addr.{Addr}
use Rattle.audit_model.specs.declared.sighting.SightId.{SightId}
use Rattle.audit_model.specs.declared.sighting.Sighting.{Sighting}
use Rattle.audit_sightings.specs.Intake.{Taken}
use Rattle.audit_rules.specs.Keys.{KeyFor}
use Rattle.audit_faults.specs.declared.fault.Fault.{Fault}
use Rattle.audit_faults.specs.declared.fault.Fault.TheVariants.{Unasked, Unallocated, Unpermitted, Unbound, Unfit, Unauthentic}
use Rattle.audit_faults.specs.declared.fault.Lease.{Lease}
use Rattle.audit_faults.specs.declared.fault.Lease.TheVariants.{Allocation, Permission, Channel}
use Rattle.audit_faults.specs.Grants.{HasGrant}
use Rattle.audit_faults.specs.Explains.{IsWanted, IsProved, Holds, NoneBefore, Reasons, IsFault}

-- the fault that ranks after this one
abbrev pub next : Fault → Fault
next Unasked = Unallocated
next Unallocated = Unpermitted
next Unpermitted = Unbound
next Unbound = Unfit
next Unfit = Unauthentic
next Unauthentic = Unauthentic

wanted_before : (fault : Fault) (lease : Lease) (G : Type 0) → IsWanted (next fault) lease G → IsWanted fault lease G
wanted_before Unasked lease G h = tt
wanted_before Unallocated (Allocation relayed) G h = h
wanted_before Unallocated (Permission ip) G h = tt
wanted_before Unallocated (Channel number peer) G h = tt
wanted_before Unpermitted (Allocation relayed) G h = h
wanted_before Unpermitted (Permission ip) G h = h
wanted_before Unpermitted (Channel number peer) G h = tt
wanted_before Unbound lease G h = h
wanted_before Unfit lease G h = h
wanted_before Unauthentic lease G h = h

proved_before : (key_for : KeyFor) (fault : Fault) (arrival departure : Sighting) → IsProved key_for (next fault) arrival departure → IsProved key_for fault arrival departure
proved_before key_for Unasked arrival departure h = tt
proved_before key_for Unallocated arrival departure h = tt
proved_before key_for Unpermitted arrival departure h = tt
proved_before key_for Unbound arrival departure h = tt
proved_before key_for Unfit arrival departure h = h.0
proved_before key_for Unauthentic arrival departure h = h

module _ (taken : Taken) (key_for : KeyFor) (fault : Fault) where
  holds : (client listen : Addr) (lease : Lease) (arrival departure : Sighting) → Holds taken (next fault) client listen lease arrival departure → Holds taken fault client listen lease arrival departure
  holds client listen lease arrival departure h = wanted_before fault lease (HasGrant taken (record { client = client; listen = listen; lease = lease }) arrival departure) h

  reasons : (arrival departure : Sighting) → Reasons taken key_for (next fault) arrival departure → Reasons taken key_for fault arrival departure
  reasons arrival departure (inl h) = inl (h.0, proved_before key_for fault arrival departure h.1)
  reasons arrival departure (inr (inl h)) = inr (inl (h.0, holds arrival.from arrival.to (Allocation departure.from) arrival departure h.1, holds arrival.from arrival.to (Permission departure.to.ip) arrival departure h.2))
  reasons arrival departure (inr (inr (inl h))) = inr (inr (inl (h.0, h.1, holds arrival.from arrival.to (Allocation departure.from) arrival departure h.2, holds arrival.from arrival.to (Channel h.0 departure.to) arrival departure h.3)))
  reasons arrival departure (inr (inr (inr (inl h)))) = inr (inr (inr (inl (h.0, holds departure.to departure.from (Allocation arrival.to) arrival departure h.1, holds departure.to departure.from (Permission arrival.from.ip) arrival departure h.2))))
  reasons arrival departure (inr (inr (inr (inr h)))) = inr (inr (inr (inr (h.0, h.1, holds departure.to departure.from (Allocation arrival.to) arrival departure h.2, holds departure.to departure.from (Permission arrival.from.ip) arrival departure h.3, holds departure.to departure.from (Channel h.0 arrival.from) arrival departure h.4))))

  fault_next : (sight : SightId) → IsFault taken key_for fault sight → IsFault taken key_for (next fault) sight
  fault_next sight f = record {
    departure = f.departure;
    there = f.there;
    leaves = f.leaves;
    by_none = λ arrival captured e. f.by_none arrival captured (record { arrives = e.arrives; in_reach = e.in_reach; reasons = reasons arrival f.departure e.reasons });
  }

-- a departure that doesn't show a fault shows none before it
module _ (taken : Taken) (key_for : KeyFor) (sight : SightId) where
  abbrev Shows : Fault → Type 0
  Shows fault = IsFault taken key_for fault sight

  not_before : (fault : Fault) → (Shows (next fault) → ⊥) → Shows fault → ⊥
  not_before fault not f = not (fault_next taken key_for fault sight f)

  pub none_before_unpermitted : (Shows Unallocated → ⊥) → NoneBefore Shows Unpermitted
  none_before_unpermitted not = (not_before Unasked not, not)

  pub none_before_unbound : (Shows Unpermitted → ⊥) → NoneBefore Shows Unbound
  none_before_unbound not = let two = not_before Unallocated not in (not_before Unasked two, two, not)

  pub none_before_unfit : (Shows Unbound → ⊥) → NoneBefore Shows Unfit
  none_before_unfit not = let three = not_before Unpermitted not in let two = not_before Unallocated three in (not_before Unasked two, two, three, not)

  pub none_before_unauthentic : (Shows Unfit → ⊥) → NoneBefore Shows Unauthentic
  none_before_unauthentic not =
      let four = not_before Unbound not in let three = not_before Unpermitted four in let two = not_before Unallocated three in (not_before Unasked two, two, three, four, not)

  -- and each fault implies the last one
  from_unbound : Shows Unbound → Shows Unauthentic
  from_unbound f = fault_next taken key_for Unfit sight (fault_next taken key_for Unbound sight f)

  from_unallocated : Shows Unallocated → Shows Unauthentic
  from_unallocated f = from_unbound (fault_next taken key_for Unpermitted sight (fault_next taken key_for Unallocated sight f))

  pub fault_at_last : (fault : Fault) → Shows fault → Shows Unauthentic
  fault_at_last Unasked f = from_unallocated (fault_next taken key_for Unasked sight f)
  fault_at_last Unallocated f = from_unallocated f
  fault_at_last Unpermitted f = from_unbound (fault_next taken key_for Unpermitted sight f)
  fault_at_last Unbound f = from_unbound f
  fault_at_last Unfit f = fault_next taken key_for Unfit sight f
  fault_at_last Unauthentic f = f
