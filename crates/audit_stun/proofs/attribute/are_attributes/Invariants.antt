use Rattle.std.proofs.Common.{◌↔◌, length}
use Rattle.audit_stun.specs.Attribute.{AreAttributes}
use Rattle.audit_stun.specs.Parts.{attributes_in}
use Rattle.audit_stun.proofs.attribute.are_attributes.Given as goal

abbrev pub invariant-loop-after : goal.invariant-loop-after
invariant-loop-after l = AreAttributes l.rest (attributes_in l.rest) ↔ AreAttributes l.bytes (attributes_in l.bytes)

abbrev pub decreases-loop-after : goal.decreases-loop-after
decreases-loop-after l = length l.rest
