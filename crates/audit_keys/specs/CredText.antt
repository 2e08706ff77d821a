-- A credentials text: lines, each ended by an LF.
use Rattle.std.specs.Prelude.{ℕ, ◌+◌, if◌then◌else◌, List, [], ◌∷◌, length, is_some, Option, None, Result, Ok, Err}
use Rattle.std.specs.List.{list_all}
use Rattle.audit_text.specs.declared.line_fault.LineFault.{LineFault}
use Rattle.audit_text.specs.Reading.{read_text}
use Rattle.audit_keys.specs.declared.cred_fault.CredFaultKind.{CredFaultKind}
use Rattle.audit_keys.specs.declared.cred_fault.CredFaultKind.TheVariants.{Line, Character, Double}
use Rattle.audit_keys.specs.CredLine.{LongTermCredential, may_stand, read_credential}
use Rattle.audit_keys.specs.Keys.{key_in}

-- one more credential, before the others, if none has its user and realm
abbrev pub with_credential : List LongTermCredential → Result LongTermCredential CredFaultKind → Result (List LongTermCredential) CredFaultKind
with_credential listed (Ok credential) = if is_some (key_in listed credential.user credential.realm) then Err Double else Ok (credential ∷ listed)
with_credential listed (Err kind) = Err kind

-- the credentials with that of one line more
abbrev pub after : List LongTermCredential → List ℕ → Result (List LongTermCredential) CredFaultKind
after listed line = with_credential listed (read_credential (length listed + 1) line)

-- the fault of bytes that no LF ends
abbrev pub unended : List LongTermCredential → List ℕ → CredFaultKind
unended listed rest = if list_all may_stand rest then Line else Character

-- a line of too many bytes is a line fault, whatever it contains
abbrev pub overlong : List LongTermCredential → CredFaultKind
overlong listed = Line

-- nothing is required
abbrev pub lacks : List LongTermCredential → Option CredFaultKind
lacks listed = None

-- The credentials of a text, the last one first, or its first fault
unfoldable pub credentials_of : List ℕ → Result (List LongTermCredential) (LineFault CredFaultKind)
credentials_of text = read_text overlong after unended lacks [] text
