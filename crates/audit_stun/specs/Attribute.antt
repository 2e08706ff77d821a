-- Attributes as RFC 8489, section 14, lays them out.
use Rattle.std.specs.Prelude.{◌≡◌, ℕ, ◌+◌, ◌*◌, ◌/◌, ◌%◌, ◌^◌, ◌<◌, List, [], ◌∷◌, ◌++◌, length}
use Rattle.std.specs.Int.{w16, to_be_bytes}

-- a type, and the value under it without its padding
pub record Attribute : Type 0 where
  pub kind : ℕ
  pub value : List ℕ

-- The bytes begin with the attribute: its type, the length of its value, the value, and at most
-- three bytes of padding up to a multiple of four, which may be any bytes. The rest comes after it.
pub record StartsWith (bytes : List ℕ) (a : Attribute) (rest : List ℕ) : Type 0 where
  pub padding : List ℕ
  pub spelled : bytes ≡ to_be_bytes w16 a.kind ++ to_be_bytes w16 (length a.value) ++ a.value ++ padding ++ rest
  pub few : length padding < 4
  pub aligned : (length a.value + length padding) % 4 ≡ 0
  pub kind_fits : a.kind < 2 ^ 16
  pub length_fits : length a.value < 2 ^ 16

-- the bytes are these attributes, one after the other, and nothing else
abbrev pub AreAttributes : List ℕ → List Attribute → Type 0
AreAttributes bytes [] = bytes ≡ []
AreAttributes bytes (a ∷ others) = (rest : List ℕ) × StartsWith bytes a rest × AreAttributes rest others

-- the number of bytes of a value of this length with its padding
abbrev pub padded : ℕ → ℕ
padded n = (n + 3) / 4 * 4

-- the number of bytes of an attribute
abbrev pub size : Attribute → ℕ
size a = 4 + padded (length a.value)
