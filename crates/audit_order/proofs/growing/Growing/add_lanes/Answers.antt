use Rattle.std.proofs.Common.{◌∙◌, arith}
use Rattle.audit_order.proofs.PortionSteps.{pairs_more}
use Rattle.audit_order.proofs.growing.Growing.add_lanes.Goals as goal

pub pairs-preserved : goal.pairs-preserved
pairs-preserved c = record {
  lanes = pairs_more c.args.self.now.lanes.items c.pairs.self.lanes.items _ c.args.pairs.now c.pairs.pair-index _ (omega arith) c.in_ok-add_lane.ensures.lanes c.pairs.invariant.lanes;
  drops = c.add_lane.ensures.drops ∙ c.pairs.invariant.drops;
  sound = λ taken sound. c.in_ok-add_lane.ensures.sound taken (c.pairs.invariant.sound taken sound);
}
