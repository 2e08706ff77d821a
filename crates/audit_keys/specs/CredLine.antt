-- One line of a credentials text: user, TAB, realm, TAB, password.
use Rattle.std.specs.Prelude.{ℕ, Bool, ◌==◌, ◌&&◌, ◌||◌, if◌then◌else◌, List, length, nat_le, nat_lt, Option, Some, None, Result, Ok, Err}
use Rattle.std.specs.List.{list_any, list_all}
use Rattle.audit_text.specs.Token.{cut_of}
use Rattle.audit_keys.specs.declared.cred_fault.CredFaultKind.{CredFaultKind}
use Rattle.audit_keys.specs.declared.cred_fault.CredFaultKind.TheVariants.{Line, Character, Limit}

-- the three fields
pub record LongTermCredential : Type 0 where
  pub user : List ℕ
  pub realm : List ℕ
  pub password : List ℕ

-- printable ASCII, or a TAB
abbrev pub may_stand : ℕ → Bool
may_stand b = (nat_le 0x20 b && nat_le b 0x7E) || (b == 9)

-- the realm and the password, if there is exactly one more TAB
abbrev pub credential_after : List ℕ → Option (List ℕ × List ℕ) → Option LongTermCredential
credential_after user None = None
credential_after user (Some halves) =
    if (length user == 0) || (length halves.0 == 0) || list_any (λ b. b == 9) halves.1 then None
    else Some (record { user = user; realm = halves.0; password = halves.1 })

abbrev pub credential_from : Option (List ℕ × List ℕ) → Option LongTermCredential
credential_from None = None
credential_from (Some halves) = credential_after halves.0 (cut_of 9 halves.1)

-- the credential of a line with two TABs, and neither user nor realm empty
unfoldable pub credential_of : List ℕ → Option LongTermCredential
credential_of line = credential_from (cut_of 9 line)

abbrev pub is_too_long : LongTermCredential → Bool
is_too_long credential = nat_lt 508 (length credential.user) || nat_lt 508 (length credential.realm) || nat_lt 508 (length credential.password)

-- a credential within the limits, with the line's number
abbrev pub limited : ℕ → Option LongTermCredential → Result LongTermCredential CredFaultKind
limited number None = Err Line
limited number (Some credential) = if is_too_long credential || nat_lt 65536 number then Err Limit else Ok credential

-- the credential of a line, or its fault
unfoldable pub read_credential : ℕ → List ℕ → Result LongTermCredential CredFaultKind
read_credential number line = if list_all may_stand line then limited number (credential_of line) else Err Character
