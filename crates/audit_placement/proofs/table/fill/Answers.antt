use Rattle.std.proofs.Common.{◌+◌, ◌∙◌}
use Rattle.audit_placement.proofs.TableGrowth.{one_blank}
use Rattle.audit_placement.proofs.table.fill.Goals as goal

pub room-preserved : goal.room-preserved
room-preserved g c = (
  c.room.invariant.0 + 1,
  c.in_ok-push.ensures.items ∙ one_blank c.args.values.now.items c.room.values.items c.args.blank c.room.invariant.0 c.room.invariant.1,
)
