use Rattle.audit_expiry.proofs.Tables.{everywhere_from_each}
use Rattle.audit_expiry.proofs.leases.Leases.any.Goals as goal

pub returns-clause-none : goal.returns-clause-none
returns-clause-none g c = λ _.
    everywhere_from_each g.K.Ord.cmp _ g.met.K.ExactKey.exact _ (c.loop-key.invariant.1 (rw (c.in-None.ensures.steps.0) tt))
