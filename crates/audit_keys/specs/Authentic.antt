-- A request that is authentic by a user (RFC 8489, sections 9.2.3 and 9.2.4).
use Rattle.std.specs.Prelude.{◌≡◌, ℕ, List, Some}
use Rattle.audit_stun.specs.declared.numbers.attribute.TheConstants.{USERNAME, REALM, NONCE}
use Rattle.audit_stun.specs.Counted.{first_of}
use Rattle.audit_stun.specs.Parts.{parts_of}
use Rattle.audit_keys.specs.declared.keys.Keys.{Keys}
use Rattle.audit_keys.specs.Chosen.{chosen_key}
use Rattle.audit_keys.specs.Keys.{KeyFor}
use Rattle.audit_keys.specs.Signed.{IsSigned}

-- It names the user and a realm and has a nonce, the credentials have keys for both, and it is
-- signed under the one that it chooses. `find` is the look-up of the credentials, as `key_for
-- credentials`.
pub record IsAuthentic (find : KeyFor) (message user : List ℕ) : Type 0 where
  pub realm : List ℕ
  pub nonce : List ℕ
  pub keys : Keys
  pub key : List ℕ
  pub names_user : first_of USERNAME (parts_of message).attributes ≡ Some user
  pub names_realm : first_of REALM (parts_of message).attributes ≡ Some realm
  pub has_nonce : first_of NONCE (parts_of message).attributes ≡ Some nonce
  pub known : find user realm ≡ Some keys
  pub chosen : chosen_key (parts_of message).attributes keys ≡ Some key
  pub signed : IsSigned message key
