-- Addresses on the outer side of a translation.
use Rattle.std.specs.Prelude.{◌≡◌, ℕ, Bool, true, not, List, Option, Some, None, option_map, ◌==◌, ◌&&◌, ◌||◌, if◌then◌else◌}
use Rattle.std.specs.List.{find, list_any}
use Rattle.audit_model.specs.declared.address.Addr.{Addr}
use Rattle.audit_model.specs.declared.policy.Policy.{Policy}
use Rattle.audit_model.specs.Policy.{listens, relays}
use Rattle.audit_packets.specs.Reading.{Datagram}
use Rattle.audit_packets.specs.Reading as seen
use Rattle.prep_translate.specs.declared.translation.Translation.{Translation}
use Rattle.prep_translate.specs.declared.renaming.Renaming.{Renaming}
use Rattle.prep_translate.specs.declared.fault.RenamingFault.{RenamingFault}
use Rattle.prep_translate.specs.declared.fault.RenamingFault.TheVariants as setup
use Rattle.prep_translate.specs.declared.fault.TranslateFault.{TranslateFault}
use Rattle.prep_translate.specs.declared.fault.TranslateFault.TheVariants as faults
use Rattle.prep_translate.specs.declared.fault.Untranslatable.{Untranslatable}
use Rattle.prep_translate.specs.declared.fault.Untranslatable.TheVariants as why
use Rattle.audit_pcapng.specs.declared.fault.CaptureFault.TheVariants.{Memory}

-- the same port at another address
abbrev pub at_ip : ℕ → Addr → Addr
at_ip ip addr = record { ip = ip; port = addr.port }

-- the public address for a private one
abbrev pub public_of : Renaming → ℕ → Option ℕ
public_of renaming ip = option_map (λ (t : Translation). t.public) (find (λ (t : Translation). t.inner == ip) renaming.translations)

abbrev pub is_inner : Renaming → ℕ → Bool
is_inner renaming ip = list_any (λ (t : Translation). t.inner == ip) renaming.translations

abbrev pub is_public : Renaming → ℕ → Bool
is_public renaming ip = list_any (λ (t : Translation). t.public == ip) renaming.translations

-- a private address becomes its public one if the port is relayed there
abbrev pub outer_by : Policy → Addr → Option ℕ → Option Addr
outer_by policy addr None = None
outer_by policy addr (Some ip) = if relays policy (at_ip ip addr) then Some (at_ip ip addr) else None

abbrev pub outer_of : Renaming → Addr → Option Addr
outer_of renaming addr = outer_by renaming.policy addr (public_of renaming addr.ip)

abbrev pub or_same : Addr → Option Addr → Addr
or_same addr None = addr
or_same addr (Some outer) = outer

-- each other address stays
abbrev pub renamed : Renaming → Addr → Addr
renamed renaming addr = or_same addr (outer_of renaming addr)

-- a public address with a relayed port
abbrev pub is_outside : Renaming → Addr → Bool
is_outside renaming addr = is_public renaming addr.ip && relays renaming.policy addr

-- an endpoint of the service
abbrev pub is_service : Policy → Addr → Bool
is_service policy addr = listens policy addr || relays policy addr

-- for a datagram with no private address at a relayed port: the first of its ends that is outside
abbrev pub outside_of : Renaming → Addr → Addr → Option Untranslatable
outside_of renaming from to =
    if is_outside renaming from then Some (why.Outside from)
    else if is_outside renaming to then Some (why.Outside to)
    else None

abbrev pub unless_moved : Option Addr → Option Addr → Option Untranslatable → Option Untranslatable
unless_moved None None fault = fault
unless_moved (Some outer) to fault = None
unless_moved None (Some outer) fault = None

abbrev pub left_out : Renaming → Addr → Addr → Option Untranslatable
left_out renaming from to = unless_moved (outer_of renaming from) (outer_of renaming to) (outside_of renaming from to)

abbrev pub fragment_of : Renaming → ℕ → ℕ → Option Untranslatable
fragment_of renaming from to = if is_inner renaming from || is_inner renaming to then Some why.Fragment else None

abbrev pub cut_of : Renaming → Option (ℕ × ℕ) → Option Untranslatable
cut_of renaming None = Some why.Cut
cut_of renaming (Some ips) = if is_inner renaming ips.0 || is_inner renaming ips.1 then Some why.Cut else None

-- why a frame with this content is refused
abbrev pub fault_of : Renaming → Datagram → Option Untranslatable
fault_of renaming (seen.Udp from to payload) = left_out renaming from to
fault_of renaming seen.Other = None
fault_of renaming (seen.Fragment from to) = fragment_of renaming from to
fault_of renaming (seen.Cut ips) = cut_of renaming ips

-- why a block is refused, unless memory ran out
abbrev pub Refuses : TranslateFault → Option Untranslatable → Type 0
Refuses (faults.Capture fault) found = fault ≡ Memory
Refuses (faults.Datagram fault) found = found ≡ Some fault

-- a policy with no range of the public address, with one of the private address, or with a listen
-- address inside the range
abbrev pub has_range : Policy → ℕ → Bool
has_range policy ip = list_any (λ range. range.ip == ip) policy.relay

abbrev pub is_covered : Policy → Translation → Addr → Bool
is_covered policy t addr = (addr.ip == t.inner) && relays policy (at_ip t.public addr)

abbrev pub first_covered : Translation → Option ℕ → Option RenamingFault
first_covered t None = None
first_covered t (Some port) = Some (setup.ListenInside (record { ip = t.inner; port = port }))

abbrev pub misfit_of : Policy → Translation → Option RenamingFault
misfit_of policy t =
    if not (has_range policy t.public) then Some (setup.NoRange t.public)
    else if has_range policy t.inner then Some (setup.InnerRange t.inner)
    else first_covered t (option_map (λ (addr : Addr). addr.port) (find (is_covered policy t) policy.listen))

-- an earlier translation has one of the addresses on the same side
abbrev pub is_taken : List Translation → Translation → Bool
is_taken earlier t = list_any (λ (e : Translation). (e.inner == t.inner) || (e.public == t.public)) earlier

-- why another translation is refused
abbrev pub Misfits : RenamingFault → Renaming → Translation → Type 0
Misfits setup.Memory renaming t = Unit {0}
Misfits (setup.Twice twice) renaming t = (twice ≡ t) × (is_taken renaming.translations t ≡ true)
Misfits (setup.NoRange ip) renaming t = misfit_of renaming.policy t ≡ Some (setup.NoRange ip)
Misfits (setup.InnerRange ip) renaming t = misfit_of renaming.policy t ≡ Some (setup.InnerRange ip)
Misfits (setup.ListenInside addr) renaming t = misfit_of renaming.policy t ≡ Some (setup.ListenInside addr)
