-- A message signed under a key (RFC 8489, sections 14.5 and 14.6).
use Rattle.std.specs.Prelude.{◌≡◌, ℕ, ◌%◌, ◌≤◌, List, ◌++◌, length, take, MatchOption, IsSomeAnd}
use Rattle.audit_stun.specs.declared.numbers.attribute.TheConstants.{MESSAGE_INTEGRITY, MESSAGE_INTEGRITY_SHA256}
use Rattle.audit_stun.specs.Covered.{covered_of}
use Rattle.audit_keys.specs.Hmac.{hmac_of, hmac256_of}

-- head and text, which an integrity attribute covers, and its value
abbrev pub Integrity : Type 0
Integrity = List ℕ × List ℕ × List ℕ

-- the value is the 20 bytes of the HMAC-SHA1 of head and text
abbrev pub IsHmac : List ℕ → Integrity → Type 0
IsHmac key found = (length found.2 ≡ 20) × (found.2 ≡ hmac_of key (found.0 ++ found.1))

-- a prefix of the HMAC-SHA256, of 16 to 32 bytes in steps of 4
pub record IsHmac256 (key : List ℕ) (found : Integrity) : Type 0 where
  pub from : 16 ≤ length found.2
  pub up_to : length found.2 ≤ 32
  pub steps : length found.2 % 4 ≡ 0
  pub front : found.2 ≡ take (length found.2) (hmac256_of key (found.0 ++ found.1))

-- MESSAGE-INTEGRITY-SHA256 decides alone if it counts, and otherwise MESSAGE-INTEGRITY. A message
-- with neither is not signed.
unfoldable pub IsSigned : List ℕ → List ℕ → Type 0
IsSigned message key = MatchOption (covered_of MESSAGE_INTEGRITY_SHA256 message) (IsSomeAnd (covered_of MESSAGE_INTEGRITY message) (IsHmac key)) (IsHmac256 key)
