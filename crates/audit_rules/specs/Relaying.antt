-- docs/RULES.md, Send, Channel data up, Data and Channel data down. When a datagram may be relayed
-- (RFC 8656, sections 11 and 12). The data that is relayed is the data that arrived, even if it is
-- empty.
use Rattle.std.specs.Prelude.{◌≡◌, ℕ, ◌≤◌, Some}
use Rattle.audit_stun.specs.declared.class.Class.TheVariants.{Indication}
use Rattle.audit_stun.specs.declared.numbers.method.TheConstants.{SEND, DATA as DATA_METHOD}
use Rattle.audit_stun.specs.declared.numbers.attribute.TheConstants.{XOR_PEER_ADDRESS, DATA}
use Rattle.audit_stun.specs.ChannelData.{channel_data_of}
use Rattle.audit_rules.specs.declared.path.Path.TheVariants.{Client, Relay}
use Rattle.audit_rules.specs.Situation.{Situation, arrival_parts, answered, IsOf, arrival_path, departure_path}
use Rattle.audit_rules.specs.Values.{Has, Names}
use Rattle.audit_rules.specs.Standing.{WithUsable, Permits, Carries}

-- from the client to a relayed address, and the other way
abbrev pub GoesUp : Situation → Type 0
GoesUp x = (arrival_path x ≡ Some Client) × (departure_path x ≡ Some Relay)

abbrev pub GoesDown : Situation → Type 0
GoesDown x = (arrival_path x ≡ Some Relay) × (departure_path x ≡ Some Client)

-- A Send indication (sections 11.1 and 11.2): its data goes from the relayed address to the peer
-- that it names.
pub record AnswersSend (x : Situation) : Type 0 where
  pub goes : GoesUp x
  pub indication : IsOf x.arrives.payload Indication SEND
  pub relays : WithUsable x (λ a. (x.leaves.from ≡ a.relayed) × Permits x a x.leaves.to.ip)
  pub peer : Names XOR_PEER_ADDRESS (arrival_parts x) x.leaves.to
  pub sends : Has DATA (arrival_parts x) x.leaves.payload

-- ChannelData of the client (section 12.6): the data goes to the channel's peer. No permission is
-- required (own).
pub record AnswersChannelUp (x : Situation) : Type 0 where
  pub goes : GoesUp x
  pub number : ℕ
  pub past : ℕ
  pub says : channel_data_of x.arrives.payload ≡ Some (number, x.leaves.payload, past)
  pub relays : WithUsable x (λ a. (x.leaves.from ≡ a.relayed) × Carries x a number x.leaves.to)

-- A Data indication (section 11.3): it names the peer that sent the datagram, and has its payload.
-- A channel may be bound too (own).
pub record AnswersData (x : Situation) : Type 0 where
  pub goes : GoesDown x
  pub indication : IsOf x.leaves.payload Indication DATA_METHOD
  pub relays : WithUsable x (λ a. (x.arrives.to ≡ a.relayed) × Permits x a x.arrives.from.ip)
  pub peer : Names XOR_PEER_ADDRESS (answered x) x.arrives.from
  pub sends : Has DATA (answered x) x.arrives.payload

-- ChannelData to the client (section 12.7), with at most three bytes of padding (section 12.5).
pub record AnswersChannelDown (x : Situation) : Type 0 where
  pub goes : GoesDown x
  pub number : ℕ
  pub past : ℕ
  pub says : channel_data_of x.leaves.payload ≡ Some (number, x.arrives.payload, past)
  pub padding : past ≤ 3
  pub relays : WithUsable x (λ a. (x.arrives.to ≡ a.relayed) × Permits x a x.arrives.from.ip × Carries x a number x.arrives.from)
