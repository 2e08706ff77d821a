-- The words of a line. A line is read if it is the text of what its words say.
use Rattle.std.specs.Prelude.{ℕ, List, Result, Ok, Err, codes, if◌then◌else◌}
use Rattle.std.specs.Str.{bytes_eq}
use Rattle.hex.specs.Hex.{decode_of, decode_sized}
use Rattle.hex.specs.declared.error.FromHexError.{FromHexError}
use Rattle.audit_expiry.specs.declared.lease.Lease.{Lease}
use Rattle.audit_text.specs.declared.token.TokenFault.{TokenFault}
use Rattle.audit_text.specs.declared.token.TokenFault.TheVariants.{Shape}
use Rattle.audit_text.specs.Token.{◌>>=◌, halves_of, both_of, number_of}
use Rattle.audit_model.specs.Addr.{addr_of}
use Rattle.audit_model.specs.AddressText.{ip_of}
use Rattle.audit_cert.specs.EventLine.{word32_of, word64_of, sight_id_of}
use Rattle.audit_rules.specs.declared.table.Channel.{Channel}
use Rattle.audit_cuts.specs.declared.carried.Came.{Came}
use Rattle.audit_cuts.specs.declared.carried.Interface.{Interface}
use Rattle.watch_checkpoint.specs.declared.entry.Entry.{Entry}
use Rattle.watch_checkpoint.specs.declared.entry.Entry.TheVariants as entry
use Rattle.watch_checkpoint.specs.declared.entry.Holder.{Holder}
use Rattle.watch_checkpoint.specs.declared.fault.LineKind.{LineKind}
use Rattle.watch_checkpoint.specs.declared.fault.LineKind.TheVariants.{Line}
use Rattle.watch_checkpoint.specs.Content.{HeaderContent}
use Rattle.watch_checkpoint.specs.Fault.{of_word}
use Rattle.watch_checkpoint.specs.Spelling.{entry_text, header_text, moment_text}

-- the first word, and what follows the word after it
unfoldable pub labelled_of : List ℕ → Result (List ℕ × List ℕ) TokenFault
labelled_of words = do
  value ← halves_of 32 words
  rest ← halves_of 32 value.1
  Ok (value.0, rest.1)

abbrev pub of_hex : {A : Type 0} → Result A FromHexError → Result A TokenFault
of_hex (Ok bytes) = Ok bytes
of_hex (Err fault) = Err Shape

-- N base N placed N
unfoldable pub interface_of : List ℕ → Result (ℕ × Interface) TokenFault
interface_of words = do
  number ← labelled_of words
  base ← labelled_of number.1
  all ← both_of (word64_of number.0) (both_of (word64_of base.0) (word32_of base.1))
  Ok (all.0, record { base = all.1.0; placed = all.1.1 })

-- IP N
unfoldable pub permission_of : List ℕ → Result (ℕ × Lease) TokenFault
permission_of words = do
  halves ← halves_of 32 words
  both ← both_of (ip_of halves.0) (word64_of halves.1)
  Ok (both.0, record { until = both.1 })

-- N PEER N
unfoldable pub channel_of : List ℕ → Result (ℕ × Channel) TokenFault
channel_of words = do
  number ← halves_of 32 words
  peer ← halves_of 32 number.1
  all ← both_of (number_of 65535 number.0) (both_of (addr_of peer.0) (word64_of peer.1))
  Ok (all.0, record { lease = record { until = all.1.1 }; peer = all.1.0 })

-- I.INDEX N
unfoldable pub came_of : List ℕ → Result Came TokenFault
came_of words = do
  halves ← halves_of 32 words
  both ← both_of (sight_id_of halves.0) (word64_of halves.1)
  Ok (record { sight = both.0; moment = both.1 })

-- C:P listen L:P relayed R:P user HEX id HEX until N
unfoldable pub holder_of_words : List ℕ → Result Holder TokenFault
holder_of_words words = do
  client ← labelled_of words
  listen ← labelled_of client.1
  relayed ← labelled_of listen.1
  user ← labelled_of relayed.1
  id ← labelled_of user.1
  pair ← both_of (addr_of client.0) (addr_of listen.0)
  rest ← both_of (addr_of relayed.0) (word64_of id.1)
  tid ← of_hex (decode_sized id.0 12)
  name ← of_hex (decode_of user.0)
  Ok (record { pair = record { client = pair.0; listen = pair.1 }; relayed = rest.0; user = name; id = tid; lease = record { until = rest.1 } })

-- what the words say, whether or not the line is the text of that
unfoldable pub words_of : List ℕ → List ℕ → Result Entry TokenFault
words_of word words =
    if bytes_eq word (codes "interface") then (do
      i ← interface_of words
      Ok (entry.Interface i.0 i.1))
    else (if bytes_eq word (codes "client") then (do
      h ← holder_of_words words
      Ok (entry.Client h))
    else (if bytes_eq word (codes "permission") then (do
      p ← permission_of words
      Ok (entry.Permission p.0 p.1))
    else (if bytes_eq word (codes "channel") then (do
      c ← channel_of words
      Ok (entry.Channel c.0 c.1))
    else (if bytes_eq word (codes "waits") then (do
      came ← came_of words
      Ok (entry.Waits came))
    else (if bytes_eq word (codes "owed") then (do
      came ← came_of words
      Ok (entry.Owed came))
    else Err Shape)))))

unfoldable pub parsed_of : List ℕ → Result Entry TokenFault
parsed_of line = do
  halves ← halves_of 32 line
  words_of halves.0 halves.1

-- the entry whose text the line is
unfoldable pub entry_of : List ℕ → Result Entry LineKind
entry_of line = do
  entry ← of_word (parsed_of line)
  if bytes_eq (entry_text entry) line then Ok entry else Err Line

-- the number and the second of a file of the ring
abbrev pub file_of : (number opened : List ℕ) → Result (ℕ × ℕ) TokenFault
file_of number opened = both_of (number_of 99999 number) (number_of 99999999999999 opened)

-- claim policy HEX users HEX begin N file N opened N
unfoldable pub parsed_header_of : List ℕ → Result HeaderContent TokenFault
parsed_header_of line = do
  first ← labelled_of line
  policy ← labelled_of first.1
  users ← labelled_of policy.1
  begin ← labelled_of users.1
  file ← labelled_of begin.1
  a ← of_hex (decode_sized policy.0 32)
  b ← of_hex (decode_sized users.0 32)
  c ← both_of (word64_of begin.0) (file_of file.0 file.1)
  Ok (record { policy = a; users = b; begin = c.0; number = c.1.0; opened = c.1.1 })

unfoldable pub header_of : List ℕ → Result HeaderContent LineKind
header_of line = do
  header ← of_word (parsed_header_of line)
  if bytes_eq (header_text header) line then Ok header else Err Line

unfoldable pub parsed_moment_of : List ℕ → Result ℕ TokenFault
parsed_moment_of line = do
  halves ← halves_of 32 line
  word64_of halves.1

unfoldable pub moment_of : List ℕ → Result ℕ LineKind
moment_of line = do
  moment ← of_word (parsed_moment_of line)
  if bytes_eq (moment_text moment) line then Ok moment else Err Line
