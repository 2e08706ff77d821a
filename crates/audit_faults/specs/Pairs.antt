-- Clients and the relayed addresses that they were granted, as pairs of numbers. Each of a pair is
-- a partner of the other.
use Rattle.std.specs.Prelude.{◌≡◌, ℕ, ◌≤◌, List, Contains}
use Rattle.std.specs.List.Sorted.{IsNonDecreasingBy}
use Rattle.audit_model.specs.declared.address.Addr.{Addr}
use Rattle.audit_model.specs.declared.sighting.Sighting.{Sighting}
use Rattle.audit_model.specs.declared.sighting.Side.TheVariants.{Leaves}
use Rattle.audit_stun.specs.declared.class.Class.TheVariants.{Success}
use Rattle.audit_stun.specs.declared.numbers.attribute.TheConstants.{XOR_RELAYED_ADDRESS}
use Rattle.audit_stun.specs.declared.numbers.method.TheConstants.{ALLOCATE}
use Rattle.audit_stun.specs.Parts.{parts_of}
use Rattle.audit_rules.specs.Situation.{IsOf}
use Rattle.audit_rules.specs.Values.{Names}
use Rattle.audit_sightings.specs.Intake.{Taken}
use Rattle.audit_faults.specs.declared.fault.Fault.{Fault}
use Rattle.audit_faults.specs.declared.fault.Fault.TheVariants.{Unasked}
use Rattle.audit_faults.specs.Grants.{IsCaptured}
use Rattle.audit_faults.specs.Keyed.{number_at}
use Rattle.audit_faults.specs.Leased.{address_number}

-- an Allocate success response to the client, with the relayed address
abbrev pub Allocates : Addr → Addr → Sighting → Type 0
Allocates client relayed s = (s.side ≡ Leaves) × (s.to ≡ client) × IsOf s.payload Success ALLOCATE × Names XOR_RELAYED_ADDRESS (parts_of s.payload) relayed

-- the partner, a number of 64 bits, is listed after the holder
abbrev pub HasPartner : List ℕ → ℕ → ℕ → Type 0
HasPartner pairs holder partner = (partner ≤ 18446744073709551615) × Contains pairs (number_at holder partner)

-- the two addresses are listed in both orders
abbrev pub ArePaired : List ℕ → Addr → Addr → Type 0
ArePaired pairs client relayed = HasPartner pairs (address_number client) (address_number relayed) × HasPartner pairs (address_number relayed) (address_number client)

-- the pairs are sorted, and each client is listed with each relayed address that it was granted
pub record ArePairs (taken : Taken) (pairs : List ℕ) : Type 0 where
  pub sorted : IsNonDecreasingBy (λ (pair : ℕ). pair) pairs
  pub all : (client relayed : Addr) (success : Sighting) → IsCaptured taken success → Allocates client relayed success → ArePaired pairs client relayed

-- the number is that of a partner, if the fault's check includes an allocation
abbrev pub IsPartnerFor : Fault → List ℕ → Addr → ℕ → Type 0
IsPartnerFor fault pairs holder partner = (fault ≡ Unasked → ⊥) → HasPartner pairs (address_number holder) partner
