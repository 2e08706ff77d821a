-- The one text of each checkpoint. A decimal number has no leading zero.
use Rattle.std.specs.Prelude.{ℕ, List, [], ◌∷◌, ◌++◌, codes, decimal, slice_index}
use Rattle.std.specs.Int.{w32, to_be_bytes}
use Rattle.hex.specs.Hex.{encode_lower}
use Rattle.sha2.specs.Sha256.{sha256}
use Rattle.audit_model.specs.Addr.{addr_text}
use Rattle.audit_cert.specs.Spelling.{sight_text}
use Rattle.audit_model.specs.declared.address.Addr.{Addr}
use Rattle.audit_model.specs.declared.pair.Pair.{Pair}
use Rattle.audit_cuts.specs.declared.carried.Came.{Came}
use Rattle.audit_cuts.specs.declared.carried.Client.{Client}
use Rattle.watch_checkpoint.specs.declared.entry.Entry.{Entry}
use Rattle.watch_checkpoint.specs.declared.entry.Entry.TheVariants as entry
use Rattle.watch_checkpoint.specs.declared.entry.Holder.{Holder}
use Rattle.watch_checkpoint.specs.Content.{Content, HeaderContent, entries_of, tenant_of, tenant_entries}

-- four numbers joined by dots
unfoldable pub ip_text : ℕ → List ℕ
ip_text ip =
    let octets = to_be_bytes w32 ip in
    decimal (slice_index octets 0) ++ (codes "." ++ (decimal (slice_index octets 1) ++ (codes "." ++ (decimal (slice_index octets 2) ++ (codes "." ++ decimal (slice_index octets 3))))))

-- the 5-tuple and the relayed transport address of a client
abbrev pub ends_text : Pair → Addr → List ℕ
ends_text pair relayed = codes "client " ++ (addr_text pair.client ++ (codes " listen " ++ (addr_text pair.listen ++ (codes " relayed " ++ addr_text relayed))))

-- the user, the transaction id and the end
abbrev pub grant_text : (user id : List ℕ) → ℕ → List ℕ
grant_text user id until = codes " user " ++ (encode_lower user ++ (codes " id " ++ (encode_lower id ++ (codes " until " ++ decimal until))))

abbrev pub holder_text : Holder → List ℕ
holder_text h = ends_text h.pair h.relayed ++ grant_text h.user h.id h.lease.until

-- `I.INDEX N`
abbrev pub came_text : Came → List ℕ
came_text came = sight_text came.sight ++ (codes " " ++ decimal came.moment)

-- a line without its LF
unfoldable pub entry_text : Entry → List ℕ
entry_text (entry.Interface n i) = codes "interface " ++ (decimal n ++ (codes " base " ++ (decimal i.base ++ (codes " placed " ++ decimal i.placed))))
entry_text (entry.Client h) = holder_text h
entry_text (entry.Permission ip lease) = codes "permission " ++ (ip_text ip ++ (codes " " ++ decimal lease.until))
entry_text (entry.Channel n c) = codes "channel " ++ (decimal n ++ (codes " " ++ (addr_text c.peer ++ (codes " " ++ decimal c.lease.until))))
entry_text (entry.Waits came) = codes "waits " ++ came_text came
entry_text (entry.Owed came) = codes "owed " ++ came_text came

-- the first moment of the claim, and the file of the ring from which the audit goes on
abbrev pub start_text : (begin number opened : ℕ) → List ℕ
start_text begin number opened = codes " begin " ++ (decimal begin ++ (codes " file " ++ (decimal number ++ (codes " opened " ++ decimal opened))))

abbrev pub header_text : HeaderContent → List ℕ
header_text h = codes "claim policy " ++ (encode_lower h.policy ++ (codes " users " ++ (encode_lower h.users ++ start_text h.begin h.number h.opened)))

abbrev pub moment_text : ℕ → List ℕ
moment_text n = codes "moment " ++ decimal n

-- a line with its LF
abbrev pub line : List ℕ → List ℕ
line text = text ++ codes "\n"

abbrev pub entry_line : Entry → List ℕ
entry_line e = line (entry_text e)

abbrev pub lines_of : List Entry → List ℕ
lines_of [] = []
lines_of (e ∷ more) = entry_line e ++ lines_of more

-- the lines of clients with their permissions and channels
abbrev pub clients_lines : List Client → List ℕ
clients_lines [] = []
clients_lines (client ∷ more) = lines_of (tenant_entries (tenant_of client)) ++ clients_lines more

-- the last line, which has the SHA-256 of all bytes before it
abbrev pub digest_line : List ℕ → List ℕ
digest_line text = codes "digest " ++ (encode_lower (sha256 text) ++ codes "\n")

abbrev pub signed : List ℕ → List ℕ
signed text = text ++ digest_line text

-- the first three lines
abbrev pub front_text : HeaderContent → ℕ → List ℕ
front_text header moment = codes "turnwatch-checkpoint 1\n" ++ (line (header_text header) ++ line (moment_text moment))

-- all lines except the last one
abbrev pub body_of : Content → List ℕ
body_of c = front_text c.header c.moment ++ lines_of (entries_of c)

abbrev pub text_of : Content → List ℕ
text_of c = signed (body_of c)
