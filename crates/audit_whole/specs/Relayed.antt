-- When a datagram that is relayed has its reasons (RFC 8656, sections 11 and 12).
use Rattle.std.specs.Prelude.{ℕ, ◌≡◌, ◌⊎◌, ◌≤◌, List, Some}
use Rattle.audit_model.specs.declared.address.Addr.{Addr}
use Rattle.audit_model.specs.declared.pair.Pair.{Pair}
use Rattle.audit_model.specs.declared.sighting.Sighting.{Sighting}
use Rattle.audit_model.specs.Window.{later}
use Rattle.audit_stun.specs.declared.class.Class.TheVariants.{Indication}
use Rattle.audit_stun.specs.declared.numbers.method.TheConstants.{SEND, DATA as DATA_METHOD}
use Rattle.audit_stun.specs.declared.numbers.attribute.TheConstants.{XOR_PEER_ADDRESS, DATA}
use Rattle.audit_stun.specs.ChannelData.{channel_data_of}
use Rattle.audit_sightings.specs.Intake.{Taken}
use Rattle.audit_rules.specs.declared.path.Path.TheVariants.{Client}
use Rattle.audit_rules.specs.Keys.{KeyFor}
use Rattle.audit_rules.specs.Situation.{arrival_parts, answered, IsOf, arrival_path, departure_path}
use Rattle.audit_rules.specs.Values.{Has, Names}
use Rattle.audit_server.specs.Step.{Step}
use Rattle.audit_whole.specs.Lasting.{situation_of, Given}
use Rattle.audit_whole.specs.Granted.{Permitted, BoundTo}

module _ (taken : Taken) (key_for : KeyFor) (c : Pair) where
  -- at this moment, grace included
  abbrev pub InTime : ℕ → ℕ → Type 0
  InTime moment until = moment ≤ later until taken.policy.grace

  -- the client has the address, by one user; and that user and the later steps have the property
  pub record Live (moment : ℕ) (relayed : Addr) (before : List Step) (Fact : List ℕ → List Step → Type 0) : Type 0 where
    pub user : List ℕ
    pub id : List ℕ
    pub end : ℕ
    pub since : List Step
    pub sent : Given taken key_for c user id relayed end before since
    pub in_time : InTime moment end
    pub fact : Fact user since

  abbrev pub HasPermission : ℕ → ℕ → List ℕ → List Step → Type 0
  HasPermission moment ip user since = (until : ℕ) × Permitted taken key_for c user ip until since × InTime moment until

  abbrev pub HasChannel : ℕ → ℕ → Addr → List ℕ → List Step → Type 0
  HasChannel moment number peer user since = (until : ℕ) × BoundTo taken key_for c user number peer until since × InTime moment until

  -- from the client, by its listen address, to a peer: the data of a Send indication under a
  -- permission, or that of ChannelData under its channel
  abbrev pub GroundedUp : ℕ → Sighting → Sighting → List Step → Type 0
  GroundedUp moment arrives leaves before =
      let x = situation_of taken key_for c moment arrives leaves in
      (arrival_path x ≡ Some Client)
      × ((IsOf arrives.payload Indication SEND × Names XOR_PEER_ADDRESS (arrival_parts x) leaves.to × Has DATA (arrival_parts x) leaves.payload
      × Live moment leaves.from before (HasPermission moment leaves.to.ip))
      ⊎ ((number : ℕ) × (past : ℕ) × (channel_data_of arrives.payload ≡ Some (number, leaves.payload, past))
      × Live moment leaves.from before (HasChannel moment number leaves.to)))

  -- from a peer to the client, by its listen address: in a Data indication that names the peer, or
  -- in ChannelData of its channel, each under a permission
  abbrev pub GroundedDown : ℕ → Sighting → Sighting → List Step → Type 0
  GroundedDown moment arrives leaves before =
      let x = situation_of taken key_for c moment arrives leaves in
      (departure_path x ≡ Some Client)
      × ((IsOf leaves.payload Indication DATA_METHOD × Names XOR_PEER_ADDRESS (answered x) arrives.from × Has DATA (answered x) arrives.payload
      × Live moment arrives.to before (HasPermission moment arrives.from.ip))
      ⊎ ((number : ℕ) × (past : ℕ) × (channel_data_of leaves.payload ≡ Some (number, arrives.payload, past))
      × Live moment arrives.to before (λ user since. HasPermission moment arrives.from.ip user since × HasChannel moment number arrives.from user since)))
