-- docs/RULES.md, New allocation, Repeated allocation and Refresh.
-- When an allocation may be made, its response repeated, renewed or removed (RFC 8656, sections 6
-- to 8).
use Rattle.std.specs.Prelude.{◌≡◌, ◌⊎◌, ◌↔◌, ℕ, ◌*◌, ◌%◌, ◌<◌, ◌==◌, if◌then◌else◌, List, Some, None, IsSome, IsTrue}
use Rattle.audit_model.specs.declared.address.Addr.{Addr}
use Rattle.audit_model.specs.Policy.{relays}
use Rattle.audit_model.specs.Window.{later}
use Rattle.audit_stun.specs.declared.class.Class.TheVariants.{Success}
use Rattle.audit_stun.specs.declared.numbers.method.TheConstants.{ALLOCATE, REFRESH}
use Rattle.audit_stun.specs.declared.numbers.attribute.TheConstants.{XOR_MAPPED_ADDRESS, XOR_RELAYED_ADDRESS, EVEN_PORT}
use Rattle.audit_stun.specs.Counted.{first_of}
use Rattle.audit_keys.specs.Authentic.{IsAuthentic}
use Rattle.audit_rules.specs.Allocation.{Allocation, Change, Makes, Renews, Removes}
use Rattle.audit_rules.specs.Situation.{Situation, arrival_parts, answered}
use Rattle.audit_rules.specs.Values.{Names, lifetime_of, transport_of, family_of}
use Rattle.audit_rules.specs.Standing.{IsResponse, IsSignedBack, WithUsable, NothingLasts, IsOwn}

-- this number of seconds after the moment
abbrev pub seconds_after : ℕ → ℕ → ℕ
seconds_after moment seconds = later moment (seconds * 1000000000)

-- the request is for UDP, and for IPv4 or for no family
abbrev pub RequestsUdpOnIpv4 : Situation → Type 0
RequestsUdpOnIpv4 x = (transport_of (arrival_parts x) ≡ Some 17) × ((family_of (arrival_parts x) ≡ None) ⊎ (family_of (arrival_parts x) ≡ Some 1))

-- an address of a relay range, with an even port if EVEN-PORT was requested
abbrev pub MayBeRelayed : Situation → Addr → Type 0
MayBeRelayed x relayed = IsTrue (relays x.policy relayed) × (IsSome (first_of EVEN_PORT (arrival_parts x).attributes) → relayed.port % 2 ≡ 0)

-- an allocation of no permissions and no channels, made by this act
abbrev pub made_by : Situation → Addr → List ℕ → ℕ → Allocation
made_by x relayed user seconds =
    record { relayed = relayed; user = user; id = (arrival_parts x).tid; until = seconds_after x.moment seconds; permissions = λ _. None; channels = λ _. None }

-- this request made the client's usable allocation
abbrev pub IsAgain : Situation → Type 0
IsAgain x = WithUsable x (λ a. a.id ≡ (arrival_parts x).tid)

-- A new allocation (RFC 8656, section 7.2): for a user, while none lasts. That no other client has
-- its address is checked over the whole server.
pub record AnswersNew (x : Situation) (change : Change) : Type 0 where
  pub response : IsResponse x Success ALLOCATE
  pub first : IsAgain x → ⊥
  pub user : List ℕ
  pub authentic : IsAuthentic x.key_for x.arrives.payload user
  pub free : NothingLasts x
  pub served : RequestsUdpOnIpv4 x
  pub relayed : Addr
  pub names_relayed : Names XOR_RELAYED_ADDRESS (answered x) relayed
  pub in_range : MayBeRelayed x relayed
  pub seconds : ℕ
  pub lasts : (lifetime_of (answered x) ≡ Some seconds) × (0 < seconds)
  pub mapped : Names XOR_MAPPED_ADDRESS (answered x) x.client
  pub signed : IsSignedBack x
  pub changes : change ≡ Makes (made_by x relayed user seconds)

-- The same request again (RFC 8656, section 7.2; RFC 8489, section 6.3.1): the response has the
-- same address.
pub record AnswersAgain (x : Situation) : Type 0 where
  pub response : IsResponse x Success ALLOCATE
  pub user : List ℕ
  pub authentic : IsAuthentic x.key_for x.arrives.payload user
  pub same : WithUsable x (λ a. (a.id ≡ (arrival_parts x).tid) × IsOwn x a × Names XOR_RELAYED_ADDRESS (answered x) a.relayed)
  pub mapped : Names XOR_MAPPED_ADDRESS (answered x) x.client
  pub signed : IsSignedBack x

-- both have LIFETIME 0, and no allocation is usable (own: RFC 8656 requires error 437, which is
-- accepted too)
abbrev pub EndsNothing : Situation → Type 0
EndsNothing x = (WithUsable x (λ a. Unit {0}) → ⊥) × (lifetime_of (arrival_parts x) ≡ Some 0) × (lifetime_of (answered x) ≡ Some 0)

-- it is a request of the allocation's user, and the response has LIFETIME 0 exactly if the request
-- has LIFETIME 0; a request without LIFETIME doesn't
abbrev pub IsRefreshed : Situation → Type 0
IsRefreshed x = WithUsable x (IsOwn x) × ((lifetime_of (arrival_parts x) ≡ Some 0) ↔ (lifetime_of (answered x) ≡ Some 0))

-- A Refresh (RFC 8656, section 8.2): the allocation lasts for the seconds of the response, and is
-- removed if these are 0.
pub record AnswersRefresh (x : Situation) (change : Change) : Type 0 where
  pub response : IsResponse x Success REFRESH
  pub user : List ℕ
  pub authentic : IsAuthentic x.key_for x.arrives.payload user
  pub seconds : ℕ
  pub lasts : lifetime_of (answered x) ≡ Some seconds
  pub allowed : EndsNothing x ⊎ IsRefreshed x
  pub signed : IsSignedBack x
  pub changes : change ≡ (if seconds == 0 then Removes else Renews (seconds_after x.moment seconds))
