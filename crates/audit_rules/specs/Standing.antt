-- What several cases require: the request's user, and usable leases (RFC 8489, section 9.2; RFC
-- 8656, sections 5, 6, 9 and 12).
use Rattle.std.specs.Prelude.{◌≡◌, ℕ, List, Option, Some, IsSome, IsSomeAnd, MatchOption}
use Rattle.std.specs.Option.{option_and_then}
use Rattle.audit_model.specs.declared.address.Addr.{Addr}
use Rattle.audit_stun.specs.declared.class.Class.{Class}
use Rattle.audit_stun.specs.declared.class.Class.TheVariants.{Request}
use Rattle.audit_stun.specs.declared.numbers.attribute.TheConstants.{USERNAME, REALM, NONCE}
use Rattle.audit_stun.specs.Message.{Parts}
use Rattle.audit_stun.specs.Counted.{first_of}
use Rattle.audit_keys.specs.declared.keys.Keys.{Keys}
use Rattle.audit_keys.specs.Chosen.{chosen_key}
use Rattle.audit_keys.specs.Keys.{KeyFor}
use Rattle.audit_keys.specs.Signed.{IsSigned}
use Rattle.audit_expiry.specs.Lease.{IsUsable, IsGone}
use Rattle.audit_rules.specs.declared.path.Path.TheVariants.{Client}
use Rattle.audit_rules.specs.Allocation.{Allocation}
use Rattle.audit_rules.specs.Situation.{Situation, arrival_parts, answered, IsOf, arrival_path, departure_path}

-- The departure goes back on the request's path, and has its method and transaction id (RFC 8489,
-- section 6.3).
pub record IsResponse (x : Situation) (class : Class) (method : ℕ) : Type 0 where
  pub forth : arrival_path x ≡ Some Client
  pub back : departure_path x ≡ Some Client
  pub request : IsOf x.arrives.payload Request method
  pub response : IsOf x.leaves.payload class method
  pub same_id : (answered x).tid ≡ (arrival_parts x).tid

-- the keys of the user and the realm that a request names
abbrev pub keys_named : KeyFor → Parts → Option Keys
keys_named key_for said = option_and_then (λ user. option_and_then (key_for user) (first_of REALM said.attributes)) (first_of USERNAME said.attributes)

-- of these the one that it chooses (RFC 8489, section 14.12)
abbrev pub key_named : KeyFor → Parts → Option (List ℕ)
key_named key_for said = option_and_then (chosen_key said.attributes) (keys_named key_for said)

-- the request has a nonce, and is signed under the key that it chooses, of the user and the realm
-- that it names: it is authentic by that user
abbrev pub IsByUser : Situation → Type 0
IsByUser x = IsSome (first_of NONCE (arrival_parts x).attributes) × IsSomeAnd (key_named x.key_for (arrival_parts x)) (IsSigned x.arrives.payload)

-- the response is signed under the key of its request (RFC 8489, section 9.2.4)
abbrev pub IsSignedBack : Situation → Type 0
IsSignedBack x = IsSomeAnd (key_named x.key_for (arrival_parts x)) (IsSigned x.leaves.payload)

-- at the moment of the act, grace included
abbrev pub UsableNow : Situation → ℕ → Type 0
UsableNow x until = IsUsable until x.moment x.policy.grace

-- there is a usable allocation, and it has the property
abbrev pub WithUsable : Situation → (Allocation → Type 0) → Type 0
WithUsable x Fact = IsSomeAnd x.allocation (λ a. UsableNow x a.until × Fact a)

-- no allocation, or one that has expired
abbrev pub NothingLasts : Situation → Type 0
NothingLasts x = MatchOption x.allocation (Unit {0}) (λ a. IsGone a.until x.moment)

-- the request is the allocation's user's (RFC 8656, section 5)
abbrev pub IsOwn : Situation → Allocation → Type 0
IsOwn x a = first_of USERNAME (arrival_parts x).attributes ≡ Some a.user

-- the peer's IP has a usable permission (RFC 8656, section 9)
abbrev pub Permits : Situation → Allocation → ℕ → Type 0
Permits x a ip = IsSomeAnd (a.permissions ip) (λ lease. UsableNow x lease.until)

-- the number is bound to the peer, and the binding usable (RFC 8656, section 12)
abbrev pub Carries : Situation → Allocation → ℕ → Addr → Type 0
Carries x a number peer = IsSomeAnd (a.channels number) (λ channel. (channel.peer ≡ peer) × UsableNow x channel.lease.until)
