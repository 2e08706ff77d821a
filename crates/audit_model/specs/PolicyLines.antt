-- One line of a policy after the heading: a word, a space and a value.
use Rattle.std.specs.Prelude.{ℕ, ◌*◌, Bool, false, ◌&&◌, ◌||◌, ◌==◌, if◌then◌else◌, List, [], ◌∷◌, ◌++◌, length, nat_le, nat_lt, Option, Some, None, Result, Ok, Err, codes}
use Rattle.std.specs.Str.{bytes_eq}
use Rattle.std.specs.List.{list_any}
use Rattle.audit_model.specs.declared.address.Addr.{Addr}
use Rattle.audit_model.specs.declared.policy.PortRange.{PortRange}
use Rattle.audit_model.specs.declared.policy.InterfaceSkew.{InterfaceSkew}
use Rattle.audit_text.specs.declared.token.TokenFault.{TokenFault}
use Rattle.audit_text.specs.declared.token.TokenFault.TheVariants as token
use Rattle.audit_model.specs.declared.policy_fault.PolicyFaultKind.{PolicyFaultKind}
use Rattle.audit_model.specs.declared.policy_fault.PolicyFaultKind.TheVariants.{Line, Overlap, Limit}
use Rattle.audit_text.specs.Token.{◌>>=◌, halves_of, both_of, number_of}
use Rattle.audit_model.specs.AddressText.{ip_of}
use Rattle.audit_model.specs.Addr.{addr_of}
use Rattle.audit_model.specs.PolicyFault.{policy_fault_of}
use Rattle.audit_model.specs.PortRange.{is_in, meet, lone}

-- the settings of the lines so far
pub record Said : Type 0 where
  pub listen : List Addr
  pub relay : List PortRange
  pub skew : Option ℕ
  pub skews : List InterfaceSkew
  pub grace : Option ℕ
  pub hold : Option ℕ
  pub headed : Bool
  pub by_interface : Bool

-- the result of a line, by that of its word
abbrev pub of_word : {A : Type 0} → Result A TokenFault → Result A PolicyFaultKind
of_word (Ok x) = Ok x
of_word (Err fault) = Err (policy_fault_of fault)

-- a listen address has a port of 1 or more
unfoldable pub listen_of : List ℕ → Result Addr TokenFault
listen_of word = do
  addr ← addr_of word
  if addr.port == 0 then Err token.Number else Ok addr

-- IP:LOW-HIGH, with 1 ≤ LOW ≤ HIGH
unfoldable pub range_of : List ℕ → Result PortRange TokenFault
range_of word = do
  halves ← halves_of 58 word
  ports ← halves_of 45 halves.1
  range ← both_of (ip_of halves.0) (both_of (number_of 65535 ports.0) (number_of 65535 ports.1))
  if (range.1.0 == 0) || nat_lt range.1.1 range.1.0 then Err token.Number else Ok (record { ip = range.0; low = range.1.0; high = range.1.1 })

-- the range overlaps an endpoint of an earlier line
abbrev pub meets_said : Said → PortRange → Bool
meets_said said range = list_any (λ addr. is_in addr range) said.listen || list_any (λ other. meet range other) said.relay

unfoldable pub after_listen : Said → List ℕ → Result Said PolicyFaultKind
after_listen said value = do
  addr ← of_word (listen_of value)
  if nat_le 64 (length said.listen) then Err Limit
      else (if meets_said said (lone addr) then Err Overlap else Ok (record said { listen = said.listen ++ addr ∷ [] }))

unfoldable pub after_relay : Said → List ℕ → Result Said PolicyFaultKind
after_relay said value = do
  range ← of_word (range_of value)
  if nat_le 64 (length said.relay) then Err Limit
      else (if meets_said said range then Err Overlap else Ok (record said { relay = said.relay ++ range ∷ [] }))

-- a length of time of at most `most` units, in nanoseconds, if none was set yet
unfoldable pub tolerance_of : Option ℕ → List ℕ → ℕ → ℕ → Result (Option ℕ) PolicyFaultKind
tolerance_of (Some earlier) value most unit = Err Line
tolerance_of None value most unit = do
  units ← of_word (number_of 18446744073709551615 value)
  if nat_lt most units then Err Limit else Ok (Some (units * unit))

-- the number of an interface has 32 bits
abbrev pub interface_of : List ℕ → Result ℕ TokenFault
interface_of word = number_of 4294967295 word

-- an earlier line has the skew of this interface, if it is one
abbrev pub is_said_of : Said → Result ℕ TokenFault → Bool
is_said_of said (Ok iface) = list_any (λ own. own.iface == iface) said.skews
is_said_of said (Err fault) = false

-- the skew of an interface, IFACE N: a second one is a line fault, whatever its N is
unfoldable pub after_skew : Said → List ℕ → Result Said PolicyFaultKind
after_skew said value = do
  halves ← of_word (halves_of 32 value)
  if is_said_of said (interface_of halves.0) then Err Line
      else (do
        both ← of_word (both_of (interface_of halves.0) (number_of 18446744073709551615 halves.1))
        if nat_lt 60000000 both.1 || nat_le 1024 (length said.skews) then Err Limit
            else Ok (record said { skews = said.skews ++ record { iface = both.0; skew = both.1 * 1000 } ∷ [] }))

unfoldable pub after_setting : Said → List ℕ → List ℕ → Result Said PolicyFaultKind
after_setting said word value =
    if bytes_eq word (codes "skew-us") then (do
      skew ← tolerance_of said.skew value 60000000 1000
      Ok (record said { skew = skew }))
    else (if bytes_eq word (codes "grace-ms") then (do
      grace ← tolerance_of said.grace value 600000 1000000
      Ok (record said { grace = grace }))
    else (if bytes_eq word (codes "hold-ms") then (do
      hold ← tolerance_of said.hold value 600000 1000000
      Ok (record said { hold = hold }))
    else Err Line))

-- the settings with one more line after the heading, or the line's fault
unfoldable pub after_word : Said → List ℕ → Result Said PolicyFaultKind
after_word said line = do
  halves ← of_word (halves_of 32 line)
  if bytes_eq halves.0 (codes "listen") then after_listen said halves.1
      else (if bytes_eq halves.0 (codes "relay") then after_relay said halves.1
      else (if said.by_interface && bytes_eq halves.0 (codes "skew-of") then after_skew said halves.1 else after_setting said halves.0 halves.1))
