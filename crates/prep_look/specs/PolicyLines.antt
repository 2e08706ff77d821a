-- The lines about addresses on a page of `look`, with whether the policy has these.
use Rattle.std.specs.Prelude.{ℕ, min, zero, suc, ◌+◌, ◌-◌, Bool, true, false, not, ◌==◌, ◌&&◌, ◌||◌, nat_lt, if◌then◌else◌, List, [], ◌∷◌, ◌++◌, is_some, length, take, drop, codes, decimal, slice_index}
use Rattle.std.specs.Int.{w32, to_be_bytes}
use Rattle.std.specs.List.{count_by, flat_map, prefix_len}
use Rattle.std.specs.BTreeMap.{is_at}
use Rattle.std.specs.Map.{lookup}
use Rattle.audit_model.specs.declared.address.Addr.{Addr}
use Rattle.audit_model.specs.declared.policy.Policy.{Policy}
use Rattle.audit_model.specs.Addr.{addr_text}
use Rattle.audit_model.specs.LanePairs.{addr_cmp}
use Rattle.audit_model.specs.Policy.{listens, relays, is_of_service}
use Rattle.prep_look.specs.declared.survey.Answers.{Answers}
use Rattle.prep_look.specs.declared.granted_address.GrantedAddress.{GrantedAddress}

-- `not-in-policy` if the policy doesn't listen
abbrev pub ending : Bool → List ℕ
ending true = codes "\n"
ending false = codes " not-in-policy\n"

-- the number of responses of an address
abbrev pub answer_by : Addr → Answers → Bool → List ℕ
answer_by addr answers listens =
    codes "answers " ++ (addr_text addr ++ (codes " " ++ (decimal (min (min (answers.binding + answers.allocate) 18446744073709551615 + answers.other) 18446744073709551615) ++ ending listens)))

-- an address of the service that isn't a relayed one, or one that grants allocations; others that
-- send responses are peers
abbrev pub answer_line : Policy → Addr → Answers → List ℕ
answer_line policy addr answers =
    if listens policy addr || (is_of_service policy addr.ip && not (relays policy addr)) || nat_lt 0 answers.allocate then answer_by addr answers (listens policy addr) else []

-- a listen address that sent no response
abbrev pub silent_line : List (Addr × Answers) → Addr → List ℕ
silent_line entries addr = if is_some (lookup (is_at (addr_cmp addr)) entries) then [] else codes "silent " ++ (addr_text addr ++ codes "\n")

-- each address that sends responses, and then the listen addresses that don't
abbrev pub answers_text : Policy → List (Addr × Answers) → List ℕ
answers_text policy entries = flat_map (λ entry. answer_line policy entry.0 entry.1) entries ++ flat_map (silent_line entries) policy.listen

abbrev pub is_of_ip : ℕ → GrantedAddress → Bool
is_of_ip ip one = one.relayed.ip == ip

-- four numbers joined by dots
abbrev pub ip_text : ℕ → List ℕ
ip_text ip =
    let octets : List ℕ = to_be_bytes w32 ip in
    decimal (slice_index octets 0) ++ (codes "." ++ (decimal (slice_index octets 1) ++ (codes "." ++ (decimal (slice_index octets 2) ++ (codes "." ++ decimal (slice_index octets 3))))))

-- the port of the last one
abbrev pub last_port : ℕ → List GrantedAddress → ℕ
last_port port [] = port
last_port port (one ∷ granted) = last_port one.relayed.port granted

-- an IP address, and its granted ports
abbrev pub ports_text : GrantedAddress → List GrantedAddress → List ℕ
ports_text first granted =
    codes "told " ++ (ip_text first.relayed.ip ++ (codes " ports " ++ (decimal (length granted)
    ++ (codes " from " ++ (decimal first.relayed.port ++ (codes " to " ++ decimal (last_port first.relayed.port granted)))))))

-- how many of them are on the wire, and how many the policy has
abbrev pub counts_text : Policy → List GrantedAddress → List ℕ
counts_text policy granted =
    codes " on-wire " ++ (decimal (count_by (λ one. one.is_on_wire) granted) ++ (codes " in-policy " ++ (decimal (count_by (λ one. relays policy one.relayed) granted) ++ codes "\n")))

abbrev pub granted_line : Policy → GrantedAddress → List GrantedAddress → List ℕ
granted_line policy first granted = ports_text first granted ++ counts_text policy granted

-- a line for each IP address whose relayed addresses are adjacent, at most `n` lines
abbrev pub granted_lines : ℕ → Policy → List GrantedAddress → List ℕ
granted_lines zero policy granted = []
granted_lines (suc n) policy [] = []
granted_lines (suc n) policy (first ∷ granted) =
    granted_line policy first (take (prefix_len (is_of_ip first.relayed.ip) (first ∷ granted)) (first ∷ granted))
    ++ granted_lines n policy (drop (prefix_len (is_of_ip first.relayed.ip) (first ∷ granted)) (first ∷ granted))

-- the lines of all addresses
abbrev pub granted_text : Policy → List GrantedAddress → List ℕ
granted_text policy granted = granted_lines (length granted) policy granted
