use Rattle.audit_stun.proofs.Attributes.{same_after_start}
use Rattle.audit_stun.proofs.attribute.are_attributes.Goals as goal

pub loop-after-preserved : goal.loop-after-preserved
loop-after-preserved c = same_after_start _ _ _ _ c.in-Some.ensures.first c.in-Some.ensures.rest c.loop-after.invariant
