-- The definitions of signed and authentic without SHA-256. Only the law `unchanged` uses them.
use Rattle.std.specs.Prelude.{◌≡◌, ◌≢◌, ℕ, ◌+◌, ◌==◌, ◌||◌, if◌then◌else◌, List, [], ◌∷◌, ◌++◌, length, take, slice_range, All, filter, find, Option, Some, option_map}
use Rattle.std.specs.Int.{w16, to_be_bytes}
use Rattle.audit_stun.specs.declared.numbers.attribute.TheConstants.{USERNAME, REALM, NONCE, MESSAGE_INTEGRITY, MESSAGE_INTEGRITY_SHA256, PASSWORD_ALGORITHM, FINGERPRINT}
use Rattle.audit_stun.specs.Attribute.{Attribute, padded}
use Rattle.audit_stun.specs.Covered.{size_before}
use Rattle.audit_stun.specs.Parts.{parts_of}
use Rattle.audit_keys.specs.Hmac.{hmac_of}
use Rattle.audit_keys.specs.Keys.{KeyFor}

-- all up to MESSAGE-INTEGRITY count, and after it these two
unfoldable pub counted_before : List Attribute → List Attribute
counted_before [] = []
counted_before (a ∷ others) =
    a ∷ (if a.kind == MESSAGE_INTEGRITY then filter (λ b. b.kind == MESSAGE_INTEGRITY_SHA256 || b.kind == FINGERPRINT) others else counted_before others)

abbrev pub first_before : ℕ → List Attribute → Option (List ℕ)
first_before kind attributes = option_map (λ a. a.value) (find (λ a. a.kind == kind) (counted_before attributes))

unfoldable pub covered_before : List ℕ → Option (List ℕ × List ℕ × List ℕ)
covered_before bytes =
    let attributes = (parts_of bytes).attributes in
    let before = size_before MESSAGE_INTEGRITY attributes in
    option_map (λ value. (take 2 bytes ++ to_be_bytes w16 (before + 4 + padded (length value)), slice_range bytes 4 (20 + before), value)) (first_before MESSAGE_INTEGRITY attributes)

pub record WasSigned (message key : List ℕ) : Type 0 where
  pub head : List ℕ
  pub text : List ℕ
  pub value : List ℕ
  pub covers : covered_before message ≡ Some (head, text, value)
  pub twenty : length value ≡ 20
  pub signs : value ≡ hmac_of key (head ++ text)

-- `find` returns one key of a user
pub record WasAuthentic (find : List ℕ → List ℕ → Option (List ℕ)) (message user : List ℕ) : Type 0 where
  pub realm : List ℕ
  pub nonce : List ℕ
  pub key : List ℕ
  pub names_user : first_before USERNAME (parts_of message).attributes ≡ Some user
  pub names_realm : first_before REALM (parts_of message).attributes ≡ Some realm
  pub has_nonce : first_before NONCE (parts_of message).attributes ≡ Some nonce
  pub known : find user realm ≡ Some key
  pub signed : WasSigned message key

-- which is this one
abbrev pub md5_keys : KeyFor → List ℕ → List ℕ → Option (List ℕ)
md5_keys find user realm = option_map (λ keys. keys.md5) (find user realm)

-- no attribute of the message is of the two types that only SHA-256 needs
abbrev pub HasNeither : List ℕ → Type 0
HasNeither message = All (λ a. (a.kind ≢ MESSAGE_INTEGRITY_SHA256) × (a.kind ≢ PASSWORD_ALGORITHM)) (parts_of message).attributes
