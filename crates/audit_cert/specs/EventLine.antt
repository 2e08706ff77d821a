-- The words of a line: a sighting `IFACE.INDEX`, a key `MOMENT TIE`, and a skew `IFACE N`.
use Rattle.std.specs.Prelude.{ℕ, List, Result, Ok, Err, codes, if◌then◌else◌}
use Rattle.std.specs.Str.{bytes_eq}
use Rattle.audit_text.specs.declared.token.TokenFault.TheVariants.{Shape}
use Rattle.audit_text.specs.Token.{◌>>=◌, halves_of, both_of, number_of}
use Rattle.audit_text.specs.declared.token.TokenFault.{TokenFault}
use Rattle.audit_model.specs.declared.sighting.SightId.{SightId}
use Rattle.audit_model.specs.declared.event.Key.{Key}
use Rattle.audit_model.specs.declared.certificate.CertSkew.{CertSkew}
use Rattle.audit_model.specs.declared.event.Event.{Event}
use Rattle.audit_model.specs.declared.event.Event.TheVariants.{In, Act, Out}

-- a number of 32 bits, and one of 64
abbrev pub word32_of : List ℕ → Result ℕ TokenFault
word32_of word = number_of 4294967295 word

abbrev pub word64_of : List ℕ → Result ℕ TokenFault
word64_of word = number_of 18446744073709551615 word

-- IFACE.INDEX
unfoldable pub sight_id_of : List ℕ → Result SightId TokenFault
sight_id_of word = do
  halves ← halves_of 46 word
  both ← both_of (word32_of halves.0) (word32_of halves.1)
  Ok (record { iface = both.0; index = both.1 })

-- MOMENT TIE
unfoldable pub event_key_of : List ℕ → Result Key TokenFault
event_key_of words = do
  halves ← halves_of 32 words
  both ← both_of (word64_of halves.0) (word32_of halves.1)
  Ok (record { moment = both.0; tie = both.1 })

-- IFACE N, with N in microseconds
unfoldable pub cert_skew_of : List ℕ → Result CertSkew TokenFault
cert_skew_of words = do
  halves ← halves_of 32 words
  both ← both_of (word32_of halves.0) (word64_of halves.1)
  Ok (record { iface = both.0; microseconds = both.1 })

-- IFACE.INDEX MOMENT TIE
unfoldable pub placed_of : List ℕ → Result (SightId × Key) TokenFault
placed_of words = do
  halves ← halves_of 32 words
  both_of (sight_id_of halves.0) (event_key_of halves.1)

-- IFACE.INDEX IFACE.INDEX MOMENT TIE
unfoldable pub act_of : List ℕ → Result (SightId × (SightId × Key)) TokenFault
act_of words = do
  halves ← halves_of 32 words
  both_of (sight_id_of halves.0) (placed_of halves.1)

-- the first word of an event line is its kind
unfoldable pub event_of : List ℕ → List ℕ → Result Event TokenFault
event_of word words =
    if bytes_eq word (codes "in") then (do
      placed ← placed_of words
      Ok (In placed.0 placed.1))
    else (if bytes_eq word (codes "act") then (do
      act ← act_of words
      Ok (Act act.0 act.1.0 act.1.1))
    else (if bytes_eq word (codes "out") then (do
      placed ← placed_of words
      Ok (Out placed.0 placed.1))
    else Err Shape))
