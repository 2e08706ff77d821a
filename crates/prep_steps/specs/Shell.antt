-- Words of a command line, as a POSIX shell reads them (POSIX.1-2024, Shell Command Language,
-- section 2.2).
use Rattle.std.specs.Prelude.{ℕ, Bool, not, ◌&&◌, ◌||◌, ◌==◌, if◌then◌else◌, nat_le, List, [], ◌∷◌, ◌++◌, codes, length}
use Rattle.std.specs.List.{list_all, list_any}

abbrev pub is_from_to : ℕ → ℕ → ℕ → Bool
is_from_to low high byte = nat_le low byte && nat_le byte high

-- a letter, a digit, or one of `%+,-./:=@_`
abbrev pub is_plain_byte : ℕ → Bool
is_plain_byte byte = (is_from_to 48 57 byte || (is_from_to 65 90 byte || is_from_to 97 122 byte)) || list_any (λ one. one == byte) (codes "%+,-./:=@_")

-- a shell reads it literally without quotes
abbrev pub is_plain : List ℕ → Bool
is_plain word = not (length word == 0) && list_all is_plain_byte word

-- a single quote ends the quotes, follows a backslash, and begins them again
abbrev pub quoted_byte : ℕ → List ℕ
quoted_byte byte = if byte == 39 then codes "'\\''" else byte ∷ []

abbrev pub quoted_bytes : List ℕ → List ℕ
quoted_bytes [] = []
quoted_bytes (byte ∷ bytes) = quoted_byte byte ++ quoted_bytes bytes

-- between single quotes
abbrev pub quoted : List ℕ → List ℕ
quoted word = codes "'" ++ (quoted_bytes word ++ codes "'")

abbrev pub word_text : List ℕ → List ℕ
word_text word = if is_plain word then word else quoted word

-- each after a space
abbrev pub words_text : List (List ℕ) → List ℕ
words_text [] = []
words_text (word ∷ words) = (codes " " ++ word_text word) ++ words_text words
