-- Whether a response's content fits its request (RFC 8489, sections 2, 6.3 and 9.2; RFC 8656,
-- sections 5, 7.2, 8.2, 10.2 and 12.2).
use Rattle.std.specs.Prelude.{◌≡◌, ◌≢◌, ◌⊎◌, ◌↔◌, ℕ, List, Some, IsSome, IsSomeAnd}
use Rattle.audit_model.specs.declared.address.Addr.{Addr}
use Rattle.audit_model.specs.declared.sighting.Sighting.{Sighting}
use Rattle.audit_stun.specs.declared.class.Class.TheVariants.{Success, Error}
use Rattle.audit_stun.specs.declared.numbers.method.TheConstants.{BINDING, ALLOCATE, REFRESH, CREATE_PERMISSION, CHANNEL_BIND}
use Rattle.audit_stun.specs.declared.numbers.attribute.TheConstants.{XOR_MAPPED_ADDRESS, XOR_PEER_ADDRESS, REALM, NONCE, UNKNOWN_ATTRIBUTES}
use Rattle.audit_stun.specs.Counted.{first_of}
use Rattle.audit_stun.specs.Parts.{parts_of}
use Rattle.audit_rules.specs.Granting.{IsChannelNumber}
use Rattle.audit_rules.specs.Values.{Names, code_of, lifetime_of, channel_number_of, transport_of}

-- it has the client's own address
abbrev pub NamesClient : List ℕ → Addr → Type 0
NamesClient response client = Names XOR_MAPPED_ADDRESS (parts_of response) client

-- it has the allocation's lifetime, which is 0 exactly if the request's is 0
abbrev pub FitsLifetime : List ℕ → List ℕ → Type 0
FitsLifetime request response = (seconds : ℕ) × (lifetime_of (parts_of response) ≡ Some seconds) × ((lifetime_of (parts_of request) ≡ Some 0) ↔ (seconds ≡ 0))

-- the request has a channel number and a peer
abbrev pub RequestsChannel : List ℕ → Type 0
RequestsChannel request = (number : ℕ) × (channel_number_of (parts_of request) ≡ Some number) × IsChannelNumber number × ((peer : Addr) × Names XOR_PEER_ADDRESS (parts_of request) peer)

-- a success response, by its method; requests of other methods have none
abbrev pub SuccessFits : ℕ → Addr → List ℕ → List ℕ → Type 0
SuccessFits method client request response =
    ((method ≡ BINDING) × NamesClient response client) ⊎ ((method ≡ ALLOCATE) × NamesClient response client) ⊎ ((method ≡ REFRESH) × FitsLifetime request response)
    ⊎ (method ≡ CREATE_PERMISSION) ⊎ ((method ≡ CHANNEL_BIND) × RequestsChannel request)

-- it has the realm and a nonce
abbrev pub Challenges : List ℕ → Type 0
Challenges response = IsSome (first_of REALM (parts_of response).attributes) × IsSome (first_of NONCE (parts_of response).attributes)

-- an Allocate request for another transport than UDP
abbrev pub RequestsOther : List ℕ → Type 0
RequestsOther request = ((parts_of request).method ≡ ALLOCATE) × IsSomeAnd (transport_of (parts_of request)) (λ protocol. protocol ≢ 17)

-- an error response: its code can be read, and the attributes that these codes need are there
pub record ErrorFits (request response : List ℕ) : Type 0 where
  pub code : ℕ
  pub has_code : code_of (parts_of response) ≡ Some code
  pub challenges : (code ≡ 401) ⊎ (code ≡ 438) → Challenges response
  pub unknown : code ≡ 420 → IsSome (first_of UNKNOWN_ATTRIBUTES (parts_of response).attributes)
  pub transport : code ≡ 442 → RequestsOther request

-- the departure is a response to this request that fits
pub record IsFit (request response : Sighting) : Type 0 where
  pub success : (parts_of response.payload).class ≡ Success → SuccessFits (parts_of response.payload).method response.to request.payload response.payload
  pub error : (parts_of response.payload).class ≡ Error → ErrorFits request.payload response.payload
