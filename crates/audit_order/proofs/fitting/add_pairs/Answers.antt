use Rattle.std.proofs.Common.{arith}
use Rattle.audit_order.proofs.FittingSteps.{pairs_more}
use Rattle.audit_order.proofs.fitting.add_pairs.Goals as goal

pub new-preserved : goal.new-preserved
new-preserved c = λ lanes of.
    pairs_more c.new.pairs c.insert.new.self lanes c.args.new.now c.new.client-index _ (omega arith) (c.new.invariant lanes of) c.in_ok-insert.ensures.ok
