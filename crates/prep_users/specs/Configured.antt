-- The users that a configuration names.
use Rattle.std.specs.Prelude.{◌≡◌, ℕ, Bool, true, false, List, [], ◌∷◌, Option, Some, None, codes, take, ◌&&◌, if◌then◌else◌}
use Rattle.std.specs.Str.{bytes_eq}
use Rattle.audit_text.specs.Token.{cut_of}
use Rattle.prep_coturn.specs.declared.rows.Row.{Row}
use Rattle.prep_users.specs.declared.account.Account.{Account}
use Rattle.prep_users.specs.declared.fault.ConfiguredFault.{ConfiguredFault}
use Rattle.prep_users.specs.declared.fault.ConfiguredFault.TheVariants as faults
use Rattle.prep_users.specs.Accounts.{account_at, is_field, is_password}

abbrev pub is_named : Row → Bool
is_named row = bytes_eq row.name.now (codes "user")

-- a name, a colon and a password
abbrev pub account_by : List ℕ → Option (List ℕ × List ℕ) → List Account
account_by realm None = []
account_by realm (Some parts) = account_at parts.0 realm parts.1 ∷ []

-- the user of a line, or none
abbrev pub accounts_of : List ℕ → Row → List Account
accounts_of realm row = if is_named row then account_by realm (cut_of 58 row.value.now) else []

-- the part before the colon, and the part after it
abbrev pub LacksName : Option (List ℕ × List ℕ) → Type 0
LacksName None = Unit {0}
LacksName (Some parts) = parts.0 ≡ []

abbrev pub IsHashed : List ℕ → Option (List ℕ × List ℕ) → Type 0
IsHashed name None = ⊥
IsHashed name (Some parts) = (parts.0 ≡ name) × (bytes_eq (take 2 parts.1) (codes "0x") ≡ true)

abbrev pub IsUnprintable : List ℕ → Option (List ℕ × List ℕ) → Type 0
IsUnprintable realm None = ⊥
IsUnprintable realm (Some parts) = (is_field parts.0 && is_field realm && is_password parts.1) ≡ false

-- why the line of a user is refused
abbrev pub Refuses : ConfiguredFault → List ℕ → Row → Type 0
Refuses (faults.NoColon line) realm row = (line ≡ row.line) × (is_named row ≡ true) × LacksName (cut_of 58 row.value.now)
Refuses (faults.Hashed line name) realm row = (line ≡ row.line) × (is_named row ≡ true) × IsHashed name (cut_of 58 row.value.now)
Refuses (faults.NotPrintable line) realm row = (line ≡ row.line) × (is_named row ≡ true) × IsUnprintable realm (cut_of 58 row.value.now)
Refuses faults.Memory realm row = Unit {0}
