-- Bytes that were hashed.
use Rattle.std.specs.Prelude.{◌≡◌, ℕ, ◌-◌, ◌^◌, List, length, min}
use Rattle.sha2.specs.Sha256.{sha256}
use Rattle.sha2.specs.Hashers.{Holds256}
use Rattle.explain_page.specs.declared.hashed.Hashing.{Hashing}
use Rattle.explain_page.specs.declared.hashed.Digests.{Digests}

-- the size is saturated at 64 bits
abbrev pub size_of : List ℕ → ℕ
size_of bytes = min (length bytes) (2 ^ 64 - 1)

-- it was fed these bytes
abbrev pub IsHashed : Hashing → List ℕ → Type 0
IsHashed hashing bytes = Holds256 hashing.state bytes × (hashing.size ≡ size_of bytes)

abbrev pub IsDigestOf : List ℕ → Digests → Type 0
IsDigestOf bytes digests = (digests.size ≡ size_of bytes) × (digests.sha256 ≡ sha256 bytes)
