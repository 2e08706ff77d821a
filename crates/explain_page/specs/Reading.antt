-- The progress of reading a file, and its bytes.
use Rattle.std.specs.Prelude.{◌≡◌, ◌≤◌, ℕ, List, drop, length, take, IfSome}
use Rattle.explain_page.specs.Hashed.{IsDigestOf, IsHashed}
use Rattle.explain_page.specs.declared.file_reading.FileReading.{FileReading}

-- the digests are of all its bytes, and the hash state is of its first ones
abbrev pub IsReadOf : FileReading → List ℕ → Type 0
IsReadOf file bytes = IfSome file.hashing (λ hashing. IsHashed hashing (take file.read bytes)) × IfSome file.digests (IsDigestOf bytes)

-- the bytes at an offset; no bytes only at the end
abbrev pub IsPiece : List ℕ → ℕ → List ℕ → Type 0
IsPiece bytes at piece = (piece ≡ take (length piece) (drop at bytes)) × (length piece ≡ 0 → length bytes ≤ at)
