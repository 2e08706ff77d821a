-- The credentials of a credentials text, and the keys that they have for a user of a realm.
use Rattle.std.specs.Prelude.{◌≡◌, ℕ, Bool, ◌&&◌, if◌then◌else◌, List, [], ◌∷◌, Option, Some, None}
use Rattle.std.specs.Str.{bytes_eq}
use Rattle.audit_keys.specs.declared.keys.Keys.{Keys}
use Rattle.audit_keys.specs.CredLine.{LongTermCredential}
use Rattle.audit_keys.specs.LongTerm.{key_of, key256_of}

-- a look-up: the keys of a user of a realm, if there are any
abbrev pub KeyFor : Type 0
KeyFor = List ℕ → List ℕ → Option Keys

abbrev pub is_of : List ℕ → List ℕ → LongTermCredential → Bool
is_of user realm credential = bytes_eq credential.user user && bytes_eq credential.realm realm

abbrev pub keys_of_credential : LongTermCredential → Keys
keys_of_credential credential = record {
  md5 = key_of credential.user credential.realm credential.password;
  sha256 = key256_of credential.user credential.realm credential.password;
}

abbrev pub key_in : List LongTermCredential → KeyFor
key_in [] user realm = None
key_in (credential ∷ listed) user realm = if is_of user realm credential then Some (keys_of_credential credential) else key_in listed user realm

-- the look-up has these credentials and no others
abbrev pub Knows : KeyFor → List LongTermCredential → Type 0
Knows find listed = (user realm : List ℕ) → find user realm ≡ key_in listed user realm
