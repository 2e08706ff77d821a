-- The user and the realm that a payload names.
use Rattle.std.specs.Prelude.{◌≡◌, ℕ, List, Some}
use Rattle.audit_stun.specs.declared.class.Class.TheVariants.{Request}
use Rattle.audit_stun.specs.declared.numbers.attribute.TheConstants.{USERNAME, REALM}
use Rattle.audit_stun.specs.Message.{Parts, IsMessage}
use Rattle.audit_stun.specs.Counted.{first_of}
use Rattle.audit_stun.specs.Parts.{parts_of}
use Rattle.audit_keys.specs.declared.keys.Keys.{Keys}
use Rattle.audit_keys.specs.Keys.{KeyFor}

-- the payload is a message whose USERNAME and REALM are these, and these are the long-term keys of
-- that user of that realm (RFC 8489, section 9.2)
pub record Names (key_for : KeyFor) (payload user realm : List ℕ) (keys : Keys) : Type 0 where
  pub parts : Parts
  pub message : IsMessage payload parts
  pub names_user : first_of USERNAME parts.attributes ≡ Some user
  pub names_realm : first_of REALM parts.attributes ≡ Some realm
  pub known : key_for user realm ≡ Some keys

abbrev pub NamesNobody : KeyFor → List ℕ → Type 0
NamesNobody key_for payload = (user realm : List ℕ) (keys : Keys) → Names key_for payload user realm keys → ⊥

-- if the payload is a request (RFC 8489, section 5), it names nobody
abbrev pub RequestNamesNobody : KeyFor → List ℕ → Type 0
RequestNamesNobody key_for payload = IsMessage payload (parts_of payload) → (parts_of payload).class ≡ Request → NamesNobody key_for payload
