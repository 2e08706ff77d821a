-- An attribute of the code as the definitions see it.
use Rattle.audit_stun.specs.declared.attribute.Attribute as declared
use Rattle.audit_stun.specs.Attribute.{Attribute}

abbrev pub seen : declared.Attribute → Attribute
seen a = record { kind = a.kind; value = a.value.now }
