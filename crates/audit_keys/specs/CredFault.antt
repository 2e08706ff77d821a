-- The names of the faults of a credentials text.
use Rattle.std.specs.Prelude.{ℕ, Bool, true, false, List, codes}
use Rattle.audit_keys.specs.declared.cred_fault.CredFaultKind.{CredFaultKind}
use Rattle.audit_keys.specs.declared.cred_fault.CredFaultKind.TheVariants.{Line, Character, Double, Limit, Memory}

-- the name under which users know a fault
abbrev pub cred_code_of : CredFaultKind → List ℕ
cred_code_of Line = codes "K1"
cred_code_of Character = codes "K2"
cred_code_of Double = codes "K3"
cred_code_of Limit = codes "K4"
cred_code_of Memory = codes "K5"

abbrev pub is_memory : CredFaultKind → Bool
is_memory Memory = true
is_memory Line = false
is_memory Character = false
is_memory Double = false
is_memory Limit = false
