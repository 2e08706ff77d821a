-- The claim about an act's fault.
use Rattle.audit_model.specs.declared.rule.Rule.{Rule}
use Rattle.audit_rules.specs.declared.fault.ActFault.{ActFault}
use Rattle.audit_rules.specs.declared.fault.ActFault.TheVariants.{Broken, Memory}

-- it is a rule with the property, or exhausted memory
abbrev pub IsBroken : ActFault → (Rule → Type 0) → Type 0
IsBroken (Broken rule) Fact = Fact rule
IsBroken Memory Fact = Unit {0}
