-- Requests that name a user, and the passwords derived from names and secrets.
use Rattle.std.specs.Prelude.{◌≡◌, ℕ, List, Some, Any}
use Rattle.audit_stun.specs.declared.class.Class.TheVariants.{Request}
use Rattle.audit_stun.specs.declared.numbers.attribute.TheConstants.{USERNAME, REALM}
use Rattle.audit_stun.specs.Counted.{first_of}
use Rattle.audit_stun.specs.Message.{IsMessage}
use Rattle.audit_stun.specs.Parts.{parts_of}
use Rattle.audit_keys.specs.Chosen.{chosen_key}
use Rattle.audit_keys.specs.Hmac.{hmac_of}
use Rattle.audit_keys.specs.LongTerm.{key_of, key256_of}
use Rattle.audit_keys.specs.Signed.{IsSigned}
use Rattle.base64.specs.Engines.{standard}
use Rattle.base64.specs.GeneralPurpose.{encode_of}
use Rattle.prep_users.specs.declared.account.Account.{Account}
use Rattle.prep_users.specs.declared.claim.Secret.{Secret}

-- the payload is a request that names a user and a realm
pub record Claims (payload user realm : List ℕ) : Type 0 where
  pub message : IsMessage payload (parts_of payload)
  pub request : (parts_of payload).class ≡ Request
  pub names_user : first_of USERNAME (parts_of payload).attributes ≡ Some user
  pub names_realm : first_of REALM (parts_of payload).attributes ≡ Some realm

-- the base64 of the HMAC-SHA1 of the name, with the secret as key
abbrev pub password_by : List ℕ → List ℕ → List ℕ
password_by secret user = encode_of standard (hmac_of secret user)

-- the request is signed with the key that it chooses of this password's keys
pub record IsSignedBy (request user realm password : List ℕ) : Type 0 where
  pub key : List ℕ
  pub chosen : chosen_key (parts_of request).attributes (record { md5 = key_of user realm password; sha256 = key256_of user realm password }) ≡ Some key
  pub signed : IsSigned request key

-- the password is derived from the name and one of the secrets
abbrev pub IsMade : List Secret → List ℕ → List ℕ → Type 0
IsMade secrets user password = Any (λ (s : Secret). password ≡ password_by s.bytes user) secrets

-- The request names the user and the realm, and is signed with a password that is derived from the
-- name and one of the secrets.
pub record Proves (secrets : List Secret) (account : Account) (payload : List ℕ) : Type 0 where
  pub claims : Claims payload account.user account.realm
  pub made : IsMade secrets account.user account.password
  pub signed : IsSignedBy payload account.user account.realm account.password
