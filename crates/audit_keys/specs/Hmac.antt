-- HMAC (RFC 2104, section 2): H (K xor opad, H (K xor ipad, text)), over blocks of 64 bytes.
use Rattle.std.specs.Prelude.{ℕ, ◌-◌, List, ◌++◌, length, map, replicate, nat_lt, if◌then◌else◌, bit_xor}
use Rattle.sha1.specs.Sha1.{sha1}
use Rattle.sha2.specs.Sha256.{sha256}

-- a hash function H
abbrev pub Hash : Type 0
Hash = List ℕ → List ℕ

-- a key of over 64 bytes is hashed first
abbrev pub short_key : Hash → List ℕ → List ℕ
short_key hash key = if nat_lt 64 (length key) then hash key else key

-- zeros fill the key's block
unfoldable pub block_of : Hash → List ℕ → List ℕ
block_of hash key = short_key hash key ++ replicate (64 - length (short_key hash key)) 0

-- each byte XORed with the pad
abbrev pub xored : ℕ → List ℕ → List ℕ
xored pad bytes = map (λ b. bit_xor b pad) bytes

unfoldable pub hmac_by : Hash → List ℕ → List ℕ → List ℕ
hmac_by hash key text = hash (xored 0x5C (block_of hash key) ++ hash (xored 0x36 (block_of hash key) ++ text))

-- HMAC-SHA1
abbrev pub hmac_of : List ℕ → List ℕ → List ℕ
hmac_of key text = hmac_by sha1 key text

-- HMAC-SHA256
abbrev pub hmac256_of : List ℕ → List ℕ → List ℕ
hmac256_of key text = hmac_by sha256 key text
