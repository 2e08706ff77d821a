use Rattle.audit_finder.proofs.filling.Filled.finish.Goals as goal

pub returns-clause-once : goal.returns-clause-once
returns-clause-once c noted s = (c.in_ok-add_all.ensures.noted noted s).0
