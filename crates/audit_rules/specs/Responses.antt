-- docs/RULES.md, Binding and Error. When the server may send a Binding success response or an error
-- response (RFC 8489, sections 6.3 and 9.2.4; RFC 8656, sections 5, 7.2 and 8.2).
use Rattle.std.specs.Prelude.{◌≡◌, ◌≢◌, ◌⊎◌, ℕ, Some, IsSome, IsSomeAnd}
use Rattle.audit_stun.specs.declared.class.Class.TheVariants.{Success, Error}
use Rattle.audit_stun.specs.declared.numbers.method.TheConstants.{BINDING, ALLOCATE}
use Rattle.audit_stun.specs.declared.numbers.attribute.TheConstants.{XOR_MAPPED_ADDRESS, REALM, NONCE, UNKNOWN_ATTRIBUTES}
use Rattle.audit_stun.specs.Counted.{first_of}
use Rattle.audit_rules.specs.Situation.{Situation, arrival_parts, answered}
use Rattle.audit_rules.specs.Values.{Names, code_of, transport_of}
use Rattle.audit_rules.specs.Standing.{IsResponse, IsByUser, IsOwn, WithUsable, NothingLasts}

-- Binding (RFC 8489, section 2): the response has the client's own address
pub record AnswersBinding (x : Situation) : Type 0 where
  pub response : IsResponse x Success BINDING
  pub mapped : Names XOR_MAPPED_ADDRESS (answered x) x.client

-- a transport other than UDP is requested; a value that can't be read requests none
abbrev pub RequestsOtherTransport : Situation → Type 0
RequestsOtherTransport x = IsSomeAnd (transport_of (arrival_parts x)) (λ protocol. protocol ≢ 17)

-- an Allocate while an allocation is usable, or another request while none lasts (RFC 8656,
-- sections 5 and 7.2)
abbrev pub IsMismatch : Situation → Type 0
IsMismatch x = ((arrival_parts x).method ≡ ALLOCATE → WithUsable x (λ a. Unit {0})) × ((arrival_parts x).method ≢ ALLOCATE → NothingLasts x)

-- the request is authentic by a user, and the usable allocation is another user's (RFC 8656,
-- section 5)
abbrev pub IsByOther : Situation → Type 0
IsByOther x = WithUsable x (λ a. IsByUser x × (IsOwn x a → ⊥))

-- What these codes require of the server's state. Other codes have no condition.
pub record Fits (x : Situation) (code : ℕ) : Type 0 where
  -- Unauthenticated and Stale Nonce (RFC 8489, section 9.2.4)
  pub challenges : (code ≡ 401) ⊎ (code ≡ 438) → IsSome (first_of REALM (answered x).attributes) × IsSome (first_of NONCE (answered x).attributes)
  -- Unknown Attribute (RFC 8489, section 6.3.1)
  pub unknown : code ≡ 420 → IsSome (first_of UNKNOWN_ATTRIBUTES (answered x).attributes)
  -- Allocation Mismatch
  pub mismatch : code ≡ 437 → IsMismatch x
  -- Wrong Credentials
  pub other_user : code ≡ 441 → IsByOther x
  -- Unsupported Transport Protocol (RFC 8656, section 7.2)
  pub transport : code ≡ 442 → ((arrival_parts x).method ≡ ALLOCATE) × RequestsOtherTransport x

-- an error response, to a request of any method
pub record AnswersError (x : Situation) : Type 0 where
  pub response : IsResponse x Error (arrival_parts x).method
  pub code : ℕ
  pub has_code : code_of (answered x) ≡ Some code
  pub fits : Fits x code
