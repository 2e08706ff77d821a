-- Whether an arrival may have caused a departure, by the contents of the two datagrams (RFC 8489,
-- section 6.3; RFC 8656, sections 11 and 12).
use Rattle.std.specs.Prelude.{◌≡◌, ◌⊎◌, ℕ, ◌≤◌, IsTrue, List, Some}
use Rattle.audit_model.specs.declared.policy.Policy.{Policy}
use Rattle.audit_model.specs.declared.sighting.Sighting.{Sighting}
use Rattle.audit_model.specs.Policy.{listens, relays}
use Rattle.audit_model.specs.Window.{later}
use Rattle.audit_stun.specs.declared.class.Class.TheVariants.{Request, Indication, Success, Error}
use Rattle.audit_stun.specs.declared.numbers.method.TheConstants.{BINDING, SEND, DATA as DATA_METHOD}
use Rattle.audit_stun.specs.declared.numbers.attribute.TheConstants.{XOR_PEER_ADDRESS, DATA}
use Rattle.audit_stun.specs.ChannelData.{channel_data_of}
use Rattle.audit_stun.specs.Message.{IsMessage}
use Rattle.audit_stun.specs.Parts.{parts_of}
use Rattle.audit_keys.specs.Authentic.{IsAuthentic}
use Rattle.audit_rules.specs.Keys.{KeyFor}
use Rattle.audit_rules.specs.Situation.{IsOf}
use Rattle.audit_rules.specs.Values.{Has, Names}

-- a success or error response
abbrev pub IsResponse : List ℕ → Type 0
IsResponse payload = IsMessage payload (parts_of payload) × (((parts_of payload).class ≡ Success) ⊎ ((parts_of payload).class ≡ Error))

-- a response: it goes back to where a request came from, and has its method and transaction id
pub record Responds (policy : Policy) (arrival departure : Sighting) : Type 0 where
  pub served : IsTrue (listens policy departure.from)
  pub forth : arrival.to ≡ departure.from
  pub back : arrival.from ≡ departure.to
  pub request : IsOf arrival.payload Request (parts_of departure.payload).method
  pub response : IsResponse departure.payload
  pub same_id : (parts_of departure.payload).tid ≡ (parts_of arrival.payload).tid

-- anybody may get an error response, and a Binding success response
abbrev pub AnswersAnybody : List ℕ → Type 0
AnswersAnybody payload = ((parts_of payload).class ≡ Error) ⊎ ((parts_of payload).method ≡ BINDING)

-- the request is authentic by a user (RFC 8489, section 9.2.4)
abbrev pub IsByUser : KeyFor → List ℕ → Type 0
IsByUser key_for payload = (user : List ℕ) × IsAuthentic key_for payload user

-- the data of a Send indication, to the peer that it names
pub record SentOn (policy : Policy) (arrival departure : Sighting) : Type 0 where
  pub served : IsTrue (listens policy arrival.to)
  pub relayed : IsTrue (relays policy departure.from)
  pub indication : IsOf arrival.payload Indication SEND
  pub peer : Names XOR_PEER_ADDRESS (parts_of arrival.payload) departure.to
  pub sends : Has DATA (parts_of arrival.payload) departure.payload

-- the data of a client's ChannelData
pub record SentInChannel (policy : Policy) (number : ℕ) (arrival departure : Sighting) : Type 0 where
  pub served : IsTrue (listens policy arrival.to)
  pub relayed : IsTrue (relays policy departure.from)
  pub past : ℕ
  pub says : channel_data_of arrival.payload ≡ Some (number, departure.payload, past)

-- a Data indication that names the peer, with the data that the peer sent
pub record Delivered (policy : Policy) (arrival departure : Sighting) : Type 0 where
  pub served : IsTrue (listens policy departure.from)
  pub relayed : IsTrue (relays policy arrival.to)
  pub indication : IsOf departure.payload Indication DATA_METHOD
  pub peer : Names XOR_PEER_ADDRESS (parts_of departure.payload) arrival.from
  pub sends : Has DATA (parts_of departure.payload) arrival.payload

-- ChannelData to a client, with the data that a peer sent
pub record DeliveredInChannel (policy : Policy) (number : ℕ) (arrival departure : Sighting) : Type 0 where
  pub served : IsTrue (listens policy departure.from)
  pub relayed : IsTrue (relays policy arrival.to)
  pub past : ℕ
  pub says : channel_data_of departure.payload ≡ Some (number, arrival.payload, past)
  pub padding : past ≤ 3

-- the windows of the two have moments that a server may take: the departure no earlier than the
-- arrival, and at most `hold` later
abbrev pub InReach : ℕ → Sighting → Sighting → Type 0
InReach hold arrival departure = (arrival.lo ≤ departure.hi) × (departure.lo ≤ later arrival.hi hold)
