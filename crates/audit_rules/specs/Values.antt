-- The attributes of a message (RFC 8656, section 18; RFC 8489, section 14).
use Rattle.std.specs.Prelude.{◌≡◌, ℕ, List, [], ◌∷◌, Option, Some, None, option_map, ◌<◌, slice_index_or}
use Rattle.std.specs.Int.{w16, w32, from_be_bytes}
use Rattle.std.specs.Option.{option_and_then}
use Rattle.audit_model.specs.declared.address.Addr.{Addr}
use Rattle.audit_stun.specs.declared.numbers.attribute.TheConstants.{LIFETIME, CHANNEL_NUMBER, REQUESTED_TRANSPORT, REQUESTED_ADDRESS_FAMILY, ERROR_CODE, XOR_PEER_ADDRESS}
use Rattle.audit_stun.specs.Message.{Parts}
use Rattle.audit_stun.specs.Counted.{first_of, all_of}
use Rattle.audit_stun.specs.XorAddress.{address_of}
use Rattle.audit_stun.specs.ErrorCode.{error_code_of}

-- each is a byte
abbrev pub AreBytes : List ℕ → Type 0
AreBytes bytes = (i : ℕ) → slice_index_or bytes i 0 < 256

-- the first attribute of this type that counts has this value
abbrev pub Has : ℕ → Parts → List ℕ → Type 0
Has kind said value = first_of kind said.attributes ≡ Some value

-- the address in the first attribute of this type, if there is one that can be read
abbrev pub address_named : ℕ → Parts → Option Addr
address_named kind said = option_and_then address_of (first_of kind said.attributes)

-- the first attribute of this type is this address
abbrev pub Names : ℕ → Parts → Addr → Type 0
Names kind said addr = address_named kind said ≡ Some addr

-- the code of an error response, if it can be read
abbrev pub code_of : Parts → Option ℕ
code_of said = option_and_then error_code_of (first_of ERROR_CODE said.attributes)

-- the number in a value of four bytes; another length can't be read
abbrev pub four : List ℕ → Option ℕ
four (a ∷ b ∷ c ∷ d ∷ []) = Some (from_be_bytes w32 (a ∷ b ∷ c ∷ d ∷ []))
four _ = None

-- the number in the first two of four bytes, the others reserved
abbrev pub two : List ℕ → Option ℕ
two (a ∷ b ∷ c ∷ d ∷ []) = Some (from_be_bytes w16 (a ∷ b ∷ []))
two _ = None

-- the first of four bytes, the others reserved
abbrev pub one : List ℕ → Option ℕ
one (a ∷ b ∷ c ∷ d ∷ []) = Some a
one _ = None

-- seconds
abbrev pub lifetime_of : Parts → Option ℕ
lifetime_of said = option_and_then four (first_of LIFETIME said.attributes)

abbrev pub channel_number_of : Parts → Option ℕ
channel_number_of said = option_and_then two (first_of CHANNEL_NUMBER said.attributes)

abbrev pub transport_of : Parts → Option ℕ
transport_of said = option_and_then one (first_of REQUESTED_TRANSPORT said.attributes)

abbrev pub family_of : Parts → Option ℕ
family_of said = option_and_then one (first_of REQUESTED_ADDRESS_FAMILY said.attributes)

-- the IP of an address before others, if all can be read
abbrev pub and_ip : Option Addr → Option (List ℕ) → Option (List ℕ)
and_ip addr ips = option_and_then (λ one. option_map (λ others. one.ip ∷ others) ips) addr

-- the IPs of these addresses, if each of them can be read
unfoldable pub ips_of : List (List ℕ) → Option (List ℕ)
ips_of [] = Some []
ips_of (value ∷ values) = and_ip (address_of value) (ips_of values)

-- the IPs of all peers that a message names, if each of them can be read
abbrev pub peer_ips_of : Parts → Option (List ℕ)
peer_ips_of said = ips_of (all_of XOR_PEER_ADDRESS said.attributes)
