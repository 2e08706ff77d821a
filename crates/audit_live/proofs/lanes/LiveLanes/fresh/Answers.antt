use Rattle.std.proofs.Common.{arith}
use Rattle.audit_live.specs.CheckedTenancies.{fresh_at}
use Rattle.audit_live.proofs.Fresh.{flat_map_next}
use Rattle.audit_live.proofs.lanes.LiveLanes.fresh.Goals as goal

pub touched-preserved : goal.touched-preserved
touched-preserved c = flat_map_next (fresh_at c.args.self.now.lanes.items) c.args.touched.now c.touched.number-index _ c.touched.fresh.items c.add_fresh.new.fresh.items (omega arith) c.touched.invariant c.in_ok-add_fresh.ensures
