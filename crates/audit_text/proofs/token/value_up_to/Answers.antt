use Rattle.std.proofs.Common.{arith}
use Rattle.audit_text.proofs.Numbers.{value_more, value_over}
use Rattle.audit_text.proofs.token.value_up_to.Goals as goal
use Rattle.audit_text.proofs.token.value_up_to.Goals.{then-digit-most-via-then-digit-most, then-digit-most-via-else-digit-most+then-value-most}

pub returns-then-digit-most : goal.returns-then-digit-most
returns-then-digit-most c =
    let over = value_over c.args.digits.now c.loop-byte.byte-index c.args.most c.requires (omega arith) in
    elim c.then-digit-most.branch [
      | then-digit-most-via-then-digit-most w ↦ over (omega (arith, c.loop-byte.invariant.so_far))
      | then-digit-most-via-else-digit-most+then-value-most w ↦ over (omega (arith, c.loop-byte.invariant.so_far))
    ]

pub loop-byte-preserved : goal.loop-byte-preserved
loop-byte-preserved c =
    let more = value_more c.args.digits.now c.loop-byte.byte-index c.requires (omega arith) in
    record { so_far = omega (arith, more, c.loop-byte.invariant.so_far); within = omega arith }
