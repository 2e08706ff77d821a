-- An IPv4 address in an attribute (RFC 8489, section 14.2).
use Rattle.std.specs.Prelude.{◌≡◌, ℕ, ◌/◌, ◌^◌, ◌<◌, ◌==◌, if◌then◌else◌, List, [], ◌∷◌, ◌++◌, Option, Some, None, bit_xor}
use Rattle.std.specs.Int.{w16, w32, to_be_bytes, from_be_bytes}
use Rattle.audit_model.specs.declared.address.Addr.{Addr}
use Rattle.audit_stun.specs.declared.numbers.TheConstants.{MAGIC_COOKIE, FAMILY_IPV4}

-- A reserved byte, the family, the port XORed with the cookie's upper half, and the address XORed
-- with the cookie.
pub record IsXorAddress (value : List ℕ) (address : Addr) : Type 0 where
  pub reserved : ℕ
  pub spelled : value ≡ reserved ∷ FAMILY_IPV4 ∷ to_be_bytes w16 (bit_xor address.port (MAGIC_COOKIE / 2 ^ 16)) ++ to_be_bytes w32 (bit_xor address.ip MAGIC_COOKIE)
  pub port_fits : address.port < 2 ^ 16
  pub ip_fits : address.ip < 2 ^ 32

-- the address in a value of eight bytes, or none
unfoldable pub address_of : List ℕ → Option Addr
address_of (reserved ∷ family ∷ p ∷ q ∷ a ∷ b ∷ c ∷ d ∷ []) =
    if family == FAMILY_IPV4 then Some (record { ip = bit_xor (from_be_bytes w32 (a ∷ b ∷ c ∷ d ∷ [])) MAGIC_COOKIE; port = bit_xor (from_be_bytes w16 (p ∷ q ∷ [])) (MAGIC_COOKIE / 2 ^ 16) })
    else None
address_of _ = None
