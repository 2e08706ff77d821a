use Rattle.std.proofs.Common.{arith}
use Rattle.audit_live.specs.CheckedTenancies.{held_by}
use Rattle.audit_live.proofs.Fresh.{flat_map_append}
use Rattle.audit_live.proofs.lanes.LiveLanes.checked.Goals as goal

pub rows-preserved : goal.rows-preserved
rows-preserved c =
    flat_map_append (held_by c.args.self.now.lanes.items c.args.self.now.holders c.args.last) c.as_slice-rows.result.now c.as_slice-rows.result.now c.rows.tenancy-index _ c.rows.checked.items c.add_held.new.checked.items
    (omega arith) c.rows.invariant c.in_ok-add_held.ensures
