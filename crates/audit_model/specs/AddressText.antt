-- An IPv4 address in a text: four numbers up to 255, joined by dots.
use Rattle.std.specs.Prelude.{ℕ, List, [], ◌∷◌, Result, Ok}
use Rattle.std.specs.Int.{w32, from_be_bytes}
use Rattle.audit_text.specs.declared.token.TokenFault.{TokenFault}
use Rattle.audit_text.specs.Token.{◌>>=◌, halves_of, both_of, number_of}

abbrev pub octet_of : List ℕ → Result ℕ TokenFault
octet_of word = number_of 255 word

unfoldable pub ip_of : List ℕ → Result ℕ TokenFault
ip_of word = do
  a ← halves_of 46 word
  b ← halves_of 46 a.1
  c ← halves_of 46 b.1
  n ← both_of (both_of (octet_of a.0) (octet_of b.0)) (both_of (octet_of c.0) (octet_of c.1))
  Ok (from_be_bytes w32 (n.0.0 ∷ n.0.1 ∷ n.1.0 ∷ n.1.1 ∷ []))
