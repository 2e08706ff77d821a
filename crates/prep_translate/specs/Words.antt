-- A translation as text: two addresses, separated by a slash.
use Rattle.std.specs.Prelude.{ℕ, List, Result, Ok}
use Rattle.audit_text.specs.declared.token.TokenFault.{TokenFault}
use Rattle.audit_text.specs.Token.{◌>>=◌, halves_of, both_of}
use Rattle.audit_model.specs.AddressText.{ip_of}
use Rattle.prep_translate.specs.declared.translation.Translation.{Translation}

unfoldable pub pair_of : List ℕ → Result Translation TokenFault
pair_of word = do
  halves ← halves_of 47 word
  both ← both_of (ip_of halves.0) (ip_of halves.1)
  Ok (record { public = both.0; inner = both.1 })
