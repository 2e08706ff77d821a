-- The long-term keys of RFC 8489, section 9.2.2: MD5 and SHA-256 of user:realm:password.
use Rattle.std.specs.Prelude.{ℕ, List, ◌++◌, codes}
use Rattle.md5.specs.Md5.{md5}
use Rattle.sha2.specs.Sha256.{sha256}

unfoldable pub key_of : List ℕ → List ℕ → List ℕ → List ℕ
key_of user realm password = md5 (user ++ codes ":" ++ realm ++ codes ":" ++ password)

unfoldable pub key256_of : List ℕ → List ℕ → List ℕ → List ℕ
key256_of user realm password = sha256 (user ++ codes ":" ++ realm ++ codes ":" ++ password)
