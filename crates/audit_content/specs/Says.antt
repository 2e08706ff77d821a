-- The contents of a datagram, by its bytes.
use Rattle.std.specs.Prelude.{◌≡◌, ⊤, ℕ, List, [], ◌∷◌, Option, Some, None}
use Rattle.std.specs.Int.{w16, w32, from_be_bytes}
use Rattle.audit_model.specs.declared.address.Addr.{Addr}
use Rattle.audit_stun.specs.declared.class.Class.TheVariants as class
use Rattle.audit_stun.specs.declared.numbers.attribute.TheConstants as attribute
use Rattle.audit_stun.specs.declared.numbers.method.TheConstants as method
use Rattle.audit_stun.specs.ChannelData.{IsChannelData}
use Rattle.audit_stun.specs.Message.{IsMessage, Parts}
use Rattle.audit_stun.specs.Parts.{parts_of}
use Rattle.audit_stun.specs.Counted.{first_of}
use Rattle.audit_stun.specs.ErrorCode.{error_code_of}
use Rattle.audit_stun.specs.XorAddress.{address_of}
use Rattle.audit_content.specs.declared.from_client.FromClient.{FromClient}
use Rattle.audit_content.specs.declared.from_client.FromClient.TheVariants as from_client
use Rattle.audit_content.specs.declared.channels.Channel.{Channel}
use Rattle.audit_content.specs.declared.to_client.ToClient.{ToClient}
use Rattle.audit_content.specs.declared.to_client.ToClient.TheVariants as to_client
use Rattle.audit_content.specs.declared.to_client.Success.{Success}
use Rattle.audit_content.specs.declared.to_client.Success.TheVariants as success

-- the first attribute of a type has that address
abbrev pub HasAddress : ℕ → Parts → Addr → Type 0
HasAddress kind parts address = (value : List ℕ) × (first_of kind parts.attributes ≡ Some value) × (address_of value ≡ Some address)

-- the peer and the data of an indication
abbrev pub HasData : Parts → Addr → List ℕ → Type 0
HasData parts peer bytes = HasAddress attribute.XOR_PEER_ADDRESS parts peer × (first_of attribute.DATA parts.attributes ≡ Some bytes)

-- the contents of a client's datagram
abbrev pub IsFromClient : List ℕ → FromClient → Type 0
IsFromClient payload (from_client.Request number id) = IsMessage payload (parts_of payload) × ((parts_of payload).class ≡ class.Request) × ((parts_of payload).method ≡ number) × ((parts_of payload).tid ≡ id)
IsFromClient payload (from_client.Send peer bytes) = IsMessage payload (parts_of payload) × ((parts_of payload).class ≡ class.Indication) × ((parts_of payload).method ≡ method.SEND) × HasData (parts_of payload) peer bytes.now
IsFromClient payload (from_client.Channel number bytes) = (after : List ℕ) × IsChannelData payload number bytes.now after

-- the number in the value of a CHANNEL-NUMBER of four bytes
unfoldable pub number_in : Option (List ℕ) → Option ℕ
number_in (Some (high ∷ low ∷ _ ∷ _ ∷ [])) = Some (from_be_bytes w16 (high ∷ low ∷ []))
number_in _ = None

-- the channel that a message names
abbrev pub HasChannel : Parts → Channel → Type 0
HasChannel parts channel = (number_in (first_of attribute.CHANNEL_NUMBER parts.attributes) ≡ Some channel.number) × HasAddress attribute.XOR_PEER_ADDRESS parts channel.peer

-- the seconds in the value of a LIFETIME of four bytes
unfoldable pub seconds_in : Option (List ℕ) → Option ℕ
seconds_in (Some (a ∷ b ∷ c ∷ d ∷ [])) = Some (from_be_bytes w32 (a ∷ b ∷ c ∷ d ∷ []))
seconds_in _ = None

-- the code in the value of an ERROR-CODE
unfoldable pub code_in : Option (List ℕ) → Option ℕ
code_in (Some value) = error_code_of value
code_in None = None

-- the contents of a success response; `Other` has none
abbrev pub IsSuccess : Parts → Success → Type 0
IsSuccess parts (success.Allocated relayed seconds) = (parts.method ≡ method.ALLOCATE) × HasAddress attribute.XOR_RELAYED_ADDRESS parts relayed × (seconds ≡ seconds_in (first_of attribute.LIFETIME parts.attributes))
IsSuccess parts (success.Refreshed seconds) = (parts.method ≡ method.REFRESH) × (seconds ≡ seconds_in (first_of attribute.LIFETIME parts.attributes))
IsSuccess parts success.Deleted = (parts.method ≡ method.REFRESH) × (seconds_in (first_of attribute.LIFETIME parts.attributes) ≡ Some 0)
IsSuccess parts success.Permitted = parts.method ≡ method.CREATE_PERMISSION
IsSuccess parts success.Bound = parts.method ≡ method.CHANNEL_BIND
IsSuccess parts success.Other = ⊤

-- the contents of a datagram to a client
abbrev pub IsToClient : List ℕ → ToClient → Type 0
IsToClient payload (to_client.Success number id success) = IsMessage payload (parts_of payload) × ((parts_of payload).class ≡ class.Success) × ((parts_of payload).method ≡ number) × ((parts_of payload).tid ≡ id) × IsSuccess (parts_of payload) success
IsToClient payload (to_client.Error number id code) = IsMessage payload (parts_of payload) × ((parts_of payload).class ≡ class.Error) × ((parts_of payload).method ≡ number) × ((parts_of payload).tid ≡ id)
    × (code ≡ code_in (first_of attribute.ERROR_CODE (parts_of payload).attributes))
IsToClient payload (to_client.Data peer bytes) = IsMessage payload (parts_of payload) × ((parts_of payload).class ≡ class.Indication) × ((parts_of payload).method ≡ method.DATA) × HasData (parts_of payload) peer bytes.now
IsToClient payload (to_client.Channel number bytes) = (after : List ℕ) × IsChannelData payload number bytes.now after
