use Rattle.audit_faults.proofs.last_grant.last_arrival.Given as goal

abbrev pub decreases-places : goal.decreases-places
decreases-places l = l.place
