-- The policy of a configuration.
use Rattle.std.specs.Prelude.{◌≡◌, ◌≢◌, ℕ, ◌+◌, ◌<◌, min, Bool, true, false, not, List, [], ◌∷◌, ◌++◌, map, filter, fold, Option, Some, None, ◌==◌, ◌&&◌, nat_le, nat_lt, length, if◌then◌else◌, ◌⊎◌}
use Rattle.std.specs.List.{flat_map, list_any}
use Rattle.audit_model.specs.declared.address.Addr.{Addr}
use Rattle.audit_model.specs.declared.policy.PortRange.{PortRange}
use Rattle.prep_coturn.specs.declared.conf.Conf.{Conf}
use Rattle.prep_coturn.specs.declared.conf.External.{External}
use Rattle.prep_coturn.specs.declared.plan.Options.{Options}
use Rattle.prep_coturn.specs.declared.plan.Plan.{Plan}
use Rattle.prep_coturn.specs.declared.fault.ConfFault.{ConfFault}
use Rattle.prep_coturn.specs.declared.fault.ConfFault.TheVariants as faults

abbrev pub is_new : List ℕ → ℕ → Bool
is_new said ip = not (list_any (λ one. one == ip) said)

-- the addresses of the configuration, and those of the options that it doesn't have
abbrev pub with_options : List ℕ → List ℕ → List ℕ
with_options said added = said ++ filter (is_new said) added

abbrev pub listening_of : Conf → Options → List ℕ
listening_of conf options = with_options conf.listening options.listening.now

abbrev pub relaying_of : Conf → Options → List ℕ
relaying_of conf options = with_options conf.relaying options.relaying.now

-- the port plus one, unless another one is set
abbrev pub alternative_of : ℕ → ℕ → ℕ
alternative_of said port = if said == 0 then min (port + 1) 65535 else said

-- coturn accepts plain UDP at the port for TLS as well, if it has a certificate
abbrev pub has_tls : Conf → Bool
has_tls conf = not conf.no_dtls && conf.has_cert && conf.has_key && not (conf.tls_port == conf.listening_port)

abbrev pub alternatives_of : Conf → List ℕ
alternatives_of conf = alternative_of conf.alt_port conf.listening_port ∷ (if has_tls conf then alternative_of conf.alt_tls_port conf.tls_port ∷ [] else [])

-- with two listening addresses also the alternative ports
abbrev pub ports_of : Conf → Bool → List ℕ
ports_of conf is_many = (conf.listening_port ∷ (if has_tls conf then conf.tls_port ∷ [] else [])) ++ (if is_many && not conf.no_rfc5780 then alternatives_of conf else [])

abbrev pub addr_at : ℕ → ℕ → Addr
addr_at ip port = record { ip = ip; port = port }

-- each address with each port
abbrev pub listens_at : List ℕ → List ℕ → List Addr
listens_at ips ports = flat_map (λ ip. map (addr_at ip) ports) ips

abbrev pub wire_at : Option ℕ → List ℕ → ℕ
wire_at (Some wire) relaying = wire
wire_at None [] = 0
wire_at None (first ∷ others) = first

-- the relay address that an external-ip line is for
abbrev pub wire_of : List ℕ → External → ℕ
wire_of relaying external = wire_at external.wire relaying

-- the last line for a relay address has the address that clients are granted
abbrev pub public_of : List ℕ → List External → ℕ → ℕ
public_of relaying external wire = fold (λ public one. if wire_of relaying one == wire then one.public else public) wire external

abbrev pub is_apart : List ℕ → List External → ℕ → Bool
is_apart relaying external wire = not (public_of relaying external wire == wire)

-- clients are granted another address for some relay address
abbrev pub is_renamed : List ℕ → List External → Bool
is_renamed relaying external = list_any (is_apart relaying external) relaying

-- and this is refused, unless the captures are translated
abbrev pub IsAddressFault : ConfFault → List ℕ → List External → Bool → Type 0
IsAddressFault (faults.NotTranslated line renamed) relaying external is_translated = (is_translated ≡ false) × (is_renamed relaying external ≡ true)
IsAddressFault (faults.OneForMany line count) relaying external is_translated = (count ≡ length relaying) × (length relaying ≢ 1)
IsAddressFault faults.Memory relaying external is_translated = Unit {0}
IsAddressFault other relaying external is_translated = ⊥

abbrev pub range_at : Conf → List ℕ → ℕ → PortRange
range_at conf relaying wire = record { ip = public_of relaying conf.external wire; low = conf.min_port; high = conf.max_port }

abbrev pub ranges_of : Conf → List ℕ → List PortRange
ranges_of conf relaying = map (range_at conf relaying) relaying

abbrev pub listens_of : Conf → Options → List Addr
listens_of conf options = listens_at (listening_of conf options) (ports_of conf (nat_lt 1 (length (listening_of conf options)))) ++ conf.aux

-- a listening port is inside the relay range
abbrev pub is_inside_at : Conf → List ℕ → Addr → Bool
is_inside_at conf relaying addr = list_any (λ ip. ip == addr.ip) relaying && nat_le conf.min_port addr.port && nat_le addr.port conf.max_port

abbrev pub is_inside : Conf → List ℕ → List Addr → Bool
is_inside conf relaying listens = list_any (is_inside_at conf relaying) listens

-- the lines of the policy
pub record IsPlanned (plan : Plan) (conf : Conf) (options : Options) : Type 0 where
  pub listens : plan.listens ≡ listens_of conf options
  pub relays : plan.relays ≡ ranges_of conf (relaying_of conf options)
  pub not_renamed : options.is_translated ≡ false → is_renamed (relaying_of conf options) conf.external ≡ false
  pub apart : is_inside conf (relaying_of conf options) (listens_of conf options) ≡ false

-- the reasons of refusals
abbrev pub IsRefused : ConfFault → Conf → Options → Type 0
IsRefused faults.NoListening conf options = listening_of conf options ≡ []
IsRefused (faults.NoRelaying listening) conf options = relaying_of conf options ≡ []
IsRefused faults.Range conf options = (conf.max_port < conf.min_port) ⊎ (conf.min_port ≡ 0)
IsRefused faults.Inside conf options = is_inside conf (relaying_of conf options) (listens_of conf options) ≡ true
IsRefused (faults.NotTranslated line renamed) conf options = IsAddressFault (faults.NotTranslated line renamed) (relaying_of conf options) conf.external options.is_translated
IsRefused (faults.OneForMany line count) conf options = IsAddressFault (faults.OneForMany line count) (relaying_of conf options) conf.external options.is_translated
IsRefused (faults.Unjudged line setting) conf options = ⊥
IsRefused (faults.Value line setting) conf options = ⊥
IsRefused faults.Memory conf options = Unit {0}
