use Rattle.std.specs.Cmp.{tied_itself}
use Rattle.audit_expiry.proofs.Growth.{grew_less}
use Rattle.audit_expiry.proofs.leases.Leases.take_out.Goals as goal

pub loop-last-preserved : goal.loop-last-preserved
loop-last-preserved g c = λ before value grew.
    rw c.remove.ensures.entries
    (grew_less g.K.Ord.cmp value before _ _ _ (tied_itself g.met.K.Ord.total _) (rw (← c.in-Some.ensures.items) (c.loop-last.invariant before value grew)))
