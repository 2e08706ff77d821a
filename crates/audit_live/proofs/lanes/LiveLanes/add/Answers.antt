use Rattle.std.proofs.Common.{refl, ◌∙◌, arith}
use Rattle.audit_live.specs.Turn.{AddsLane}
use Rattle.audit_live.proofs.Chains.{chain_next}
use Rattle.audit_live.proofs.lanes.LiveLanes.add.Goals as goal

pub pairs-init : goal.pairs-init
pairs-init c = record { lanes = refl; count = omega arith; owed = refl; holders = refl }

pub pairs-preserved : goal.pairs-preserved
pairs-preserved c = record {
  lanes = chain_next AddsLane c.args.self.now.lanes.items c.args.pairs.now c.pairs.pair-index _ c.pairs.self.lanes.items c.add_lane.new.self.lanes.items (omega arith) c.pairs.invariant.lanes c.in_ok-add_lane.ensures.lanes;
  count = omega (arith, c.in_ok-add_lane.ensures.count, c.pairs.invariant.count);
  owed = c.add_lane.ensures.rest.0 ∙ c.pairs.invariant.owed;
  holders = c.add_lane.ensures.rest.1 ∙ c.pairs.invariant.holders;
}
