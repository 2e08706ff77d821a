-- Captures that are hashed.
use Rattle.std.specs.Prelude.{◌≡◌, ℕ, List, Option, Some}
use Rattle.sha2.specs.Sha256.{sha256}
use Rattle.prep_program.specs.declared.hashing.Hashed.{Hashed}

-- the digest is that of the bytes which files of this content have
abbrev pub IsHashed : (List ℕ → Option (List ℕ)) → Hashed → Type 0
IsHashed holds one = (text : List ℕ) → holds one.name.now ≡ Some text → one.digest ≡ sha256 text
