use Rattle.std.proofs.Common.{◌∙◌, rules}
use Rattle.audit_model.proofs.Sames.{client_apart}
use Rattle.audit_machine.proofs.Pairs.{key_at}
use Rattle.audit_machine.proofs.tables.Tables.purge.Goals as goal

pub returns-in-Some-clause-rest : goal.returns-in-Some-clause-rest
returns-in-Some-clause-rest c q ne = let h = (c.get_mut.follows.holds c.purge.new.self).3 (search rules) in h.2 (q.client, q.listen) (key_at c.args.pair q ∙ client_apart q c.args.pair ne)
