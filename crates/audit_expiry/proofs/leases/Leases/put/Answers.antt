use Rattle.audit_expiry.proofs.leases.Leases.put.Goals as goal

pub returns-clause-ok : goal.returns-clause-ok
returns-clause-ok g c = λ q. rw (← c.self.view_is) (c.in_ok-insert.ensures.updates.0 q)
