-- Keys of what an arrival has in common with each departure that it may have caused.
use Rattle.std.specs.Prelude.{◌≡◌, ◌⊎◌, ℕ, IsTrue, List, Option, Some, MatchOption}
use Rattle.audit_model.specs.declared.address.Addr.{Addr}
use Rattle.audit_model.specs.declared.policy.Policy.{Policy}
use Rattle.audit_model.specs.declared.sighting.Sighting.{Sighting}
use Rattle.audit_model.specs.declared.sighting.Side.TheVariants.{Arrives}
use Rattle.audit_model.specs.Policy.{listens, relays}
use Rattle.audit_stun.specs.declared.class.Class.TheVariants.{Request}
use Rattle.audit_stun.specs.declared.numbers.attribute.TheConstants.{XOR_PEER_ADDRESS, DATA}
use Rattle.audit_stun.specs.ChannelData.{channel_data_of}
use Rattle.audit_stun.specs.Message.{IsMessage}
use Rattle.audit_stun.specs.Parts.{parts_of}
use Rattle.audit_sightings.specs.Intake.{Taken}
use Rattle.audit_rules.specs.Values.{Has, Names}
use Rattle.audit_faults.specs.declared.keyed.ByKey.{ByKey}
use Rattle.audit_faults.specs.Keyed.{digest_of, IsKeyed}
use Rattle.audit_faults.specs.Leased.{address_number, lease_key, mixed_of}

-- a request and its response: the client, the server's address and the transaction id
abbrev pub exchange_key : Addr → Addr → List ℕ → ℕ
exchange_key client listen tid = mixed_of (lease_key 1 client (address_number listen)) (digest_of tid)

-- data to a peer in a Send indication, which names the peer, and in ChannelData, which doesn't
abbrev pub sent_key : Addr → List ℕ → ℕ
sent_key peer bytes = lease_key 2 peer (digest_of bytes)

abbrev pub sent_in_channel_key : List ℕ → ℕ
sent_in_channel_key bytes = mixed_of 3 (digest_of bytes)

-- data of a peer in a Data indication, which names the peer, and in ChannelData, which doesn't
abbrev pub delivered_key : Addr → List ℕ → ℕ
delivered_key peer bytes = lease_key 4 peer (digest_of bytes)

abbrev pub delivered_in_channel_key : List ℕ → ℕ
delivered_in_channel_key bytes = mixed_of 5 (digest_of bytes)

-- data with its owner: the client that sent it, or the relayed address that a peer sent it to
abbrev pub owned_key : ℕ → ℕ → ℕ
owned_key key owner = mixed_of key owner

-- data has its plain key, and the one with its owner
abbrev pub IsEither : ℕ → ℕ → Addr → Type 0
IsEither key plain owner = (key ≡ plain) ⊎ (key ≡ owned_key plain (address_number owner))

-- a request has its key, data to a peer those of one of two kinds, and data of a peer those of both
abbrev pub IsRequestUnder : ℕ → Sighting → Type 0
IsRequestUnder key s = IsMessage s.payload (parts_of s.payload) × ((parts_of s.payload).class ≡ Request) × (key ≡ exchange_key s.from s.to (parts_of s.payload).tid)

abbrev pub IsSendUnder : ℕ → Sighting → Type 0
IsSendUnder key s =
    IsMessage s.payload (parts_of s.payload) × ((peer : Addr) × (bytes : List ℕ) × Names XOR_PEER_ADDRESS (parts_of s.payload) peer × Has DATA (parts_of s.payload) bytes × IsEither key (sent_key peer bytes) s.from)

abbrev pub IsChannelDataUnder : ℕ → Sighting → Type 0
IsChannelDataUnder key s = (number : ℕ) × (bytes : List ℕ) × (past : ℕ) × (channel_data_of s.payload ≡ Some (number, bytes, past)) × IsEither key (sent_in_channel_key bytes) s.from

abbrev pub IsPeerDataUnder : ℕ → Sighting → Type 0
IsPeerDataUnder key s = IsEither key (delivered_key s.from s.payload) s.to ⊎ IsEither key (delivered_in_channel_key s.payload) s.to

-- An arrival that has the key: a client's request or data, or a peer's datagram.
abbrev pub IsArrivalBy : Policy → ℕ → Sighting → Type 0
IsArrivalBy policy key s =
    (s.side ≡ Arrives)
    × ((IsTrue (listens policy s.to) × (IsRequestUnder key s ⊎ IsSendUnder key s ⊎ IsChannelDataUnder key s)) ⊎ (IsTrue (relays policy s.to) × IsPeerDataUnder key s))

-- there is a key, which the arrival has
abbrev pub HasKey : Policy → Option ℕ → Sighting → Type 0
HasKey policy key s = MatchOption key ⊥ (λ key. IsArrivalBy policy key s)

-- the arrival has the key, and the one with that owner
abbrev pub IsOwnedBy : Policy → ℕ → ℕ → Sighting → Type 0
IsOwnedBy policy key owner s = IsArrivalBy policy key s × IsArrivalBy policy (owned_key key owner) s

-- there is a key, and the arrival has both
abbrev pub HasOwnedKey : Policy → Option ℕ → ℕ → Sighting → Type 0
HasOwnedKey policy key owner s = MatchOption key ⊥ (λ key. IsOwnedBy policy key owner s)

-- each arrival is listed under its keys
abbrev pub AreArrivalsByKey : Taken → ByKey → Type 0
AreArrivalsByKey taken arrivals = IsKeyed taken (IsArrivalBy taken.policy) arrivals.places.now arrivals.width
