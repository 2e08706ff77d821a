-- The content of lines of a credentials text, in the code's form.
use Rattle.std.specs.Prelude.{◌≡◌, List, length}
use Rattle.audit_keys.specs.declared.credential_lines.CredentialLines.{CredentialLines}
use Rattle.audit_keys.specs.CredLine.{LongTermCredential}
use Rattle.audit_keys.specs.KeyFor.{HasKeysOf}

-- it has these credentials, one a line
abbrev pub Says : CredentialLines → List LongTermCredential → Type 0
Says lines listed = HasKeysOf lines.credentials listed × (lines.count ≡ length listed)
