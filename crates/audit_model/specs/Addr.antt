-- A transport address in a text: an address, a colon and a port.
use Rattle.std.specs.Prelude.{◌++◌, slice_index, codes, decimal}
use Rattle.std.specs.Int.{w32, to_be_bytes}
use Rattle.std.specs.Prelude.{ℕ, List, Result, Ok}
use Rattle.audit_text.specs.declared.token.TokenFault.{TokenFault}
use Rattle.audit_model.specs.declared.address.Addr.{Addr}
use Rattle.audit_text.specs.Token.{◌>>=◌, halves_of, both_of, number_of}
use Rattle.audit_model.specs.AddressText.{ip_of}

unfoldable pub addr_of : List ℕ → Result Addr TokenFault
addr_of word = do
  halves ← halves_of 58 word
  both ← both_of (ip_of halves.0) (number_of 65535 halves.1)
  Ok (record { ip = both.0; port = both.1 })

-- four numbers joined by dots, a colon and a port
abbrev pub octets_text : List ℕ → ℕ → List ℕ
octets_text octets port =
    decimal (slice_index octets 0)
    ++ (codes "."
    ++ (decimal (slice_index octets 1)
    ++ (codes "." ++ (decimal (slice_index octets 2) ++ (codes "." ++ (decimal (slice_index octets 3) ++ (codes ":" ++ decimal port)))))))

-- the address in a text
abbrev pub addr_text : Addr → List ℕ
addr_text addr = octets_text (to_be_bytes w32 addr.ip) addr.port
