-- Texts of printable ASCII, and JSON of such texts.
use Rattle.std.specs.Prelude.{ℕ, ◌/◌, ◌%◌, ◌==◌, List, [], ◌∷◌, ◌&&◌, ◌||◌, Bool, true, false, if◌then◌else◌, nat_le, nat_lt, ◌^◌, flat_map}
use Rattle.std.specs.List.{list_all}
use Rattle.std.specs.Fmt.{digit_glyph}
use Rattle.serde_json.specs.Data.{Data, null, boolean, number, string, array, object, Members, no_members, member, unsigned, negative, float}

-- a byte from the space to the tilde
abbrev pub is_printable_byte : ℕ → Bool
is_printable_byte b = nat_le 32 b && nat_le b 126

abbrev pub is_printable : List ℕ → Bool
is_printable = list_all is_printable_byte

-- `\xHH`
abbrev pub hex_escape : ℕ → List ℕ
hex_escape b = 92 ∷ 120 ∷ digit_glyph true (b / 16) ∷ digit_glyph true (b % 16) ∷ []

-- a printable byte, or `\xHH` for another one, a quote and a backslash
abbrev pub ascii_byte : ℕ → List ℕ
ascii_byte b = if is_printable_byte b then (if (b == 34) || (b == 92) then hex_escape b else b ∷ []) else hex_escape b

abbrev pub ascii_bytes : List ℕ → List ℕ
ascii_bytes = flat_map ascii_byte

-- null, a natural number of 64 bits, or a printable text
abbrev pub is_plain : Data → Bool
is_plain null = true
is_plain (boolean b) = false
is_plain (number (unsigned n)) = nat_lt n (2 ^ 64)
is_plain (number (negative z)) = false
is_plain (number (float x)) = false
is_plain (string s) = is_printable s
is_plain (array ds) = false
is_plain (object ms) = false

-- each key is printable, and each value is plain
abbrev pub are_plain : Members → Bool
are_plain no_members = true
are_plain (member k d ms) = is_printable k && (is_plain d && are_plain ms)
