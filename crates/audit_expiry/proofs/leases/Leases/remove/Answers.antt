use Rattle.audit_expiry.proofs.leases.Leases.remove.Goals as goal

pub returns : goal.returns
returns g c = λ q. rw (← c.self.view_is) (c.remove.ensures.updates.0 q)
