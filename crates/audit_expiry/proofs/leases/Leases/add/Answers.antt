use Rattle.std.proofs.Common.{sym, ◌∙◌}
use Rattle.audit_expiry.proofs.Growth.{adds_new}
use Rattle.audit_expiry.proofs.leases.Leases.add.Goals as goal

pub returns-clause-ok : goal.returns-clause-ok
returns-clause-ok g c =
    rw (← c.self.view_is)
    (adds_new g.K.Ord.cmp _ _ _ _ _ _ (sym c.contains_key.ensures ∙ c.if-contains_key.false) c.in_default.ensures.entries c.in_default.ensures.updates.0 c.in_ok-push.ensures.items)
