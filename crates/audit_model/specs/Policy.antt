-- The endpoints that a policy names.
use Rattle.std.specs.Prelude.{◌≡◌, ◌⊎◌, ℕ, Any, Bool, IsTrue, ◌==◌, ◌&&◌, ◌||◌}
use Rattle.std.specs.List.{list_any}
use Rattle.audit_model.specs.declared.address.Addr.{Addr}
use Rattle.audit_model.specs.declared.policy.Policy.{Policy}
use Rattle.audit_model.specs.PortRange.{IsIn, is_in}

-- a listen address
abbrev pub Listens : Policy → Addr → Type 0
Listens policy addr = Any (λ listen. listen ≡ addr) policy.listen

-- an address of a relay range
abbrev pub Relays : Policy → Addr → Type 0
Relays policy addr = Any (λ range. IsIn addr range) policy.relay

-- the IP of some endpoint
abbrev pub IsOfService : Policy → ℕ → Type 0
IsOfService policy ip = Any (λ listen. listen.ip ≡ ip) policy.listen ⊎ Any (λ range. range.ip ≡ ip) policy.relay

-- the three definitions above as tests
abbrev pub listens : Policy → Addr → Bool
listens policy addr = list_any (λ listen. (listen.ip == addr.ip) && (listen.port == addr.port)) policy.listen

abbrev pub relays : Policy → Addr → Bool
relays policy addr = list_any (λ range. is_in addr range) policy.relay

abbrev pub is_of_service : Policy → ℕ → Bool
is_of_service policy ip = list_any (λ listen. listen.ip == ip) policy.listen || list_any (λ range. range.ip == ip) policy.relay

-- no listen address is in a relay range
abbrev pub AreApart : Policy → Type 0
AreApart policy = (addr : Addr) → IsTrue (listens policy addr) → IsTrue (relays policy addr) → ⊥
