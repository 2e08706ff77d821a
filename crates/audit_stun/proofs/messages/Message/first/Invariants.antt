use Rattle.std.proofs.Common.{◌≡◌, nat_eq}
use Rattle.std.specs.Prelude.{option_map, find}
use Rattle.audit_stun.specs.Parts.{parts_of}
use Rattle.audit_stun.specs.Counted.{first_of}
use Rattle.audit_stun.specs.Left.{counted_left}
use Rattle.audit_stun.proofs.messages.Message.first.Given as goal

abbrev pub invariant-loop-attribute : goal.invariant-loop-attribute
invariant-loop-attribute l =
    (goal.iterator-loop-attribute).can_next l.attribute-iterator ×
    (goal.iterator-loop-attribute).is_finite l.attribute-iterator ×
    (option_map (λ a. a.value) (find (λ a. nat_eq a.kind l.kind) (counted_left l.attribute-iterator)) ≡ first_of l.kind (parts_of l.self).attributes)
