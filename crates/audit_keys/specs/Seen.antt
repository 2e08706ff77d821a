-- A credential of the code as the definitions see it.
use Rattle.audit_keys.specs.declared.credential_line.LongTermCredential as declared
use Rattle.audit_keys.specs.CredLine.{LongTermCredential}

abbrev pub seen : declared.LongTermCredential → LongTermCredential
seen credential = record { user = credential.user.now; realm = credential.realm.now; password = credential.password.now }
