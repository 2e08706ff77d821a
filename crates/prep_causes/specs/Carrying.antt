-- The content of a datagram, by the bytes of its payload.
use Rattle.std.specs.Prelude.{◌≡◌, ◌⊎◌, ℕ, Bool, true, false, if◌then◌else◌, List, [], Option, Some, None, unwrap_or}
use Rattle.audit_model.specs.declared.address.Addr.{Addr}
use Rattle.audit_model.specs.declared.policy.Policy.{Policy}
use Rattle.audit_model.specs.Policy.{relays}
use Rattle.audit_stun.specs.declared.class.Class.{Class}
use Rattle.audit_stun.specs.declared.class.Class.TheVariants as class
use Rattle.audit_stun.specs.declared.numbers.attribute.TheConstants as attribute
use Rattle.audit_stun.specs.declared.numbers.method.TheConstants as method
use Rattle.audit_stun.specs.ChannelData.{channel_data_of}
use Rattle.audit_stun.specs.Counted.{first_of}
use Rattle.audit_stun.specs.Message.{IsMessage, Parts}
use Rattle.audit_stun.specs.Parts.{parts_of}
use Rattle.audit_stun.specs.XorAddress.{address_of}
use Rattle.prep_causes.specs.declared.carried.Carried.{Carried}
use Rattle.prep_causes.specs.declared.carried.Carried.TheVariants.{Data, Exchange}
use Rattle.prep_causes.specs.declared.carried.Peer.{Peer}
use Rattle.prep_causes.specs.declared.carried.Peer.TheVariants.{At, OfService, Unsaid}
use Rattle.sha2.specs.Sha256.{sha256}

abbrev pub peer_at : Policy → Addr → Peer
peer_at policy addr = if relays policy addr then OfService else At addr

abbrev pub peer_of : Policy → Option Addr → Peer
peer_of policy None = Unsaid
peer_of policy (Some addr) = peer_at policy addr

-- the peer in the value of an XOR-PEER-ADDRESS
abbrev pub peer_in : Policy → Option (List ℕ) → Peer
peer_in policy None = Unsaid
peer_in policy (Some value) = peer_of policy (address_of value)

abbrev pub data_of : List ℕ → Peer → Carried
data_of bytes peer = Data (sha256 bytes) peer

-- the data of an indication, and the peer that it names
abbrev pub of_parts : Policy → Parts → Carried
of_parts policy parts = data_of (unwrap_or (first_of attribute.DATA parts.attributes) []) (peer_in policy (first_of attribute.XOR_PEER_ADDRESS parts.attributes))

abbrev pub IsOfClass : Policy → Addr → Parts → Carried → Class → Type 0
IsOfClass policy client parts carried class.Indication = ((parts.method ≡ method.SEND) ⊎ (parts.method ≡ method.DATA)) × (carried ≡ of_parts policy parts)
IsOfClass policy client parts carried class.Request = carried ≡ Exchange true client parts.method parts.tid
IsOfClass policy client parts carried class.Success = carried ≡ Exchange false client parts.method parts.tid
IsOfClass policy client parts carried class.Error = carried ≡ Exchange false client parts.method parts.tid

-- the data of a Send or Data indication; of a request or a response the client, the method and the
-- transaction id
abbrev pub IsOfMessage : Policy → Addr → Parts → Carried → Type 0
IsOfMessage policy client parts carried = IsOfClass policy client parts carried parts.class

-- ChannelData with this content
pub record IsOfChannel (payload : List ℕ) (carried : Carried) : Type 0 where
  pub number : ℕ
  pub bytes : List ℕ
  pub after : ℕ
  pub read : channel_data_of payload ≡ Some (number, bytes, after)
  pub is : carried ≡ data_of bytes Unsaid

-- a message with this content
pub record IsInMessage (policy : Policy) (client : Addr) (payload : List ℕ) (carried : Carried) : Type 0 where
  pub whole : IsMessage payload (parts_of payload)
  pub means : IsOfMessage policy client (parts_of payload) carried

-- between a client and the server
abbrev pub IsOfClient : Policy → Addr → List ℕ → Carried → Type 0
IsOfClient policy client payload carried = IsOfChannel payload carried ⊎ IsInMessage policy client payload carried

-- Between a relayed address and a peer the whole payload is the data. Between the server and a
-- client it is that of ChannelData or of an indication.
abbrev pub IsCarried : Policy → Bool → Addr → List ℕ → Carried → Type 0
IsCarried policy true far payload carried = carried ≡ data_of payload (peer_at policy far)
IsCarried policy false far payload carried = IsOfClient policy far payload carried
