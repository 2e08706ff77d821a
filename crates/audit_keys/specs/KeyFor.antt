-- The keys that credentials have for a user of a realm.
use Rattle.std.specs.Prelude.{List}
use Rattle.std.specs.Option.{option_and_then}
use Rattle.std.specs.Ordering.{nat_cmp}
use Rattle.std.specs.Cmp.Lexicographic.{slice_cmp}
use Rattle.std.specs.BTreeMap.{get_by}
use Rattle.audit_keys.specs.declared.keyring.Credentials.{Credentials}
use Rattle.audit_keys.specs.CredLine.{LongTermCredential}
use Rattle.audit_keys.specs.Keys.{KeyFor, Knows}

unfoldable pub key_for : Credentials → KeyFor
key_for credentials user realm =
    option_and_then (λ users. get_by (λ k. slice_cmp nat_cmp user k.items) users)
    (get_by (λ k. slice_cmp nat_cmp realm k.items) credentials.realms)

-- credentials have the keys of these credentials, and no others
abbrev pub HasKeysOf : Credentials → List LongTermCredential → Type 0
HasKeysOf credentials listed = Knows (key_for credentials) listed
