-- Keys of requests for leases and of their success responses: by client, and by what they can
-- grant.
use Rattle.std.specs.Prelude.{◌≡◌, ◌⊎◌, ℕ, ◌+◌, ◌*◌, List}
use Rattle.std.specs.List.{fold}
use Rattle.std.specs.Hash as fed
use Rattle.std.specs.Hash.DefaultHasher as sip
use Rattle.audit_model.specs.declared.address.Addr.{Addr}
use Rattle.audit_model.specs.declared.sighting.Sighting.{Sighting}
use Rattle.audit_model.specs.declared.sighting.Side.TheVariants.{Arrives, Leaves}
use Rattle.audit_stun.specs.declared.class.Class.{Class}
use Rattle.audit_stun.specs.declared.class.Class.TheVariants.{Request, Success}
use Rattle.audit_stun.specs.declared.numbers.method.TheConstants.{ALLOCATE, CREATE_PERMISSION, CHANNEL_BIND}
use Rattle.audit_stun.specs.declared.numbers.attribute.TheConstants.{XOR_RELAYED_ADDRESS}
use Rattle.audit_stun.specs.Message.{IsMessage}
use Rattle.audit_stun.specs.Parts.{parts_of}
use Rattle.audit_sightings.specs.Intake.{Taken}
use Rattle.audit_rules.specs.Situation.{IsOf}
use Rattle.audit_rules.specs.Values.{Names}
use Rattle.audit_faults.specs.declared.fault.Lease.TheVariants.{Permission, Channel}
use Rattle.audit_faults.specs.declared.keyed.ByKey.{ByKey}
use Rattle.audit_faults.specs.declared.leased.Leases.{Leases}
use Rattle.audit_faults.specs.Grants.{IsCaptured, IsRequestFor}
use Rattle.audit_faults.specs.Keyed.{digest_of, IsKeyed}

-- a success response of this method grants a lease
abbrev pub IsLeaseMethod : ℕ → Type 0
IsLeaseMethod method = (method ≡ ALLOCATE) ⊎ (method ≡ CREATE_PERMISSION) ⊎ (method ≡ CHANNEL_BIND)

abbrev pub IsLeaseMessage : Class → List ℕ → Type 0
IsLeaseMessage class payload = IsMessage payload (parts_of payload) × ((parts_of payload).class ≡ class) × IsLeaseMethod (parts_of payload).method

-- a digest of two numbers
abbrev pub mixed_of : ℕ → ℕ → ℕ
mixed_of one other = sip.finish (fold sip.write (fold sip.write sip.initial (fed.u64 one)) (fed.u64 other))

abbrev pub address_number : Addr → ℕ
address_number addr = addr.ip * 65536 + addr.port

-- a kind, a client and a third number: for a success response its transaction, for an Allocate
-- request likewise, for an Allocate success response its address, or nothing; and what a request
-- for a permission or a channel names
abbrev pub lease_key : ℕ → Addr → ℕ → ℕ
lease_key kind client rest = mixed_of (mixed_of kind (address_number client)) rest

abbrev pub answer_key : ℕ → Addr → List ℕ → ℕ
answer_key method client tid = lease_key method client (digest_of tid)

abbrev pub allocate_key : Addr → List ℕ → ℕ
allocate_key client tid = lease_key 65536 client (digest_of tid)

abbrev pub relayed_key : Addr → Addr → ℕ
relayed_key client relayed = lease_key 65537 client (address_number relayed)

abbrev pub beginning_key : Addr → ℕ
beginning_key client = lease_key 65538 client 0

abbrev pub permission_key : Addr → ℕ → ℕ
permission_key client ip = lease_key 65539 client ip

abbrev pub channel_key : Addr → ℕ → Addr → ℕ
channel_key client number peer = lease_key (131072 + number) client (address_number peer)

-- a success response has the key of its transaction, and an Allocate one also those of its client
-- and of its relayed address
abbrev pub HasSuccessKey : Addr → List ℕ → ℕ → Type 0
HasSuccessKey client payload key =
    (key ≡ answer_key (parts_of payload).method client (parts_of payload).tid)
    ⊎ (((parts_of payload).method ≡ ALLOCATE) × ((key ≡ beginning_key client) ⊎ ((relayed : Addr) × Names XOR_RELAYED_ADDRESS (parts_of payload) relayed × (key ≡ relayed_key client relayed))))

abbrev pub IsAnswerBy : ℕ → Sighting → Type 0
IsAnswerBy key s = (s.side ≡ Leaves) × IsLeaseMessage Success s.payload × HasSuccessKey s.to s.payload key

-- a request has the keys of the leases that it is for; for an allocation, that of its transaction
abbrev pub HasRequestKey : Addr → List ℕ → ℕ → Type 0
HasRequestKey client payload key =
    (IsOf payload Request ALLOCATE × (key ≡ allocate_key client (parts_of payload).tid)) ⊎ ((ip : ℕ) × IsRequestFor (Permission ip) payload × (key ≡ permission_key client ip))
    ⊎ ((number : ℕ) × (peer : Addr) × IsRequestFor (Channel number peer) payload × (key ≡ channel_key client number peer))

-- a success response to the client, of the request's method and transaction
abbrev pub Answers : Addr → List ℕ → Sighting → Type 0
Answers client request s = (s.side ≡ Leaves) × (s.to ≡ client) × IsOf s.payload Success (parts_of request).method × ((parts_of s.payload).tid ≡ (parts_of request).tid)

-- a request without a success response grants nothing
abbrev pub IsRequestBy : Taken → ℕ → Sighting → Type 0
IsRequestBy taken key s = (s.side ≡ Arrives) × HasRequestKey s.from s.payload key × ((success : Sighting) × IsCaptured taken success × Answers s.from s.payload success)

-- the success responses are listed by what they grant, and the requests by what they request
abbrev pub AreAnswers : Taken → ByKey → Type 0
AreAnswers taken answers = IsKeyed taken IsAnswerBy answers.places.now answers.width

abbrev pub AreRequests : Taken → ByKey → Type 0
AreRequests taken requests = IsKeyed taken (IsRequestBy taken) requests.places.now requests.width

pub record AreLeases (taken : Taken) (leases : Leases) : Type 0 where
  pub answers : AreAnswers taken leases.answers
  pub requests : AreRequests taken leases.requests
