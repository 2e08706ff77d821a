use Rattle.audit_model.proofs.PairSets.{after_insert}
use Rattle.audit_model.proofs.lane_pairs.LanePairs.insert.Goals as goal

pub returns-clause-ok : goal.returns-clause-ok
returns-clause-ok c x l = after_insert c.args.self.now.set c.insert.new.self c.args.client c.args.listen c.in_ok-insert.ensures.updates x l
