-- The fault of a policy line, by the fault of one of its words.
use Rattle.std.specs.Prelude.{ℕ, Bool, true, false, List, codes}
use Rattle.audit_text.specs.declared.token.TokenFault.{TokenFault}
use Rattle.audit_text.specs.declared.token.TokenFault.TheVariants as token
use Rattle.audit_model.specs.declared.policy_fault.PolicyFaultKind.{PolicyFaultKind}
use Rattle.audit_model.specs.declared.policy_fault.PolicyFaultKind.TheVariants.{Line, Number, Overlap, Missing, Limit, Memory}

abbrev pub policy_fault_of : TokenFault → PolicyFaultKind
policy_fault_of token.Shape = Line
policy_fault_of token.Number = Number

-- the name under which users know a fault
abbrev pub policy_code_of : PolicyFaultKind → List ℕ
policy_code_of Line = codes "P1"
policy_code_of Number = codes "P2"
policy_code_of Overlap = codes "P3"
policy_code_of Missing = codes "P4"
policy_code_of Limit = codes "P5"
policy_code_of Memory = codes "P6"

abbrev pub is_memory : PolicyFaultKind → Bool
is_memory Memory = true
is_memory Line = false
is_memory Number = false
is_memory Overlap = false
is_memory Missing = false
is_memory Limit = false
