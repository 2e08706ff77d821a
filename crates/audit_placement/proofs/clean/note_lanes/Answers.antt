use Rattle.std.proofs.Common.{arith, subst, sym, take}
use Rattle.audit_sightings.specs.Intake.{taken}
use Rattle.audit_placement.specs.Clean.{IsClean}
use Rattle.audit_placement.specs.Entries.{lanes_entries}
use Rattle.audit_placement.specs.Keys.{key_at}
use Rattle.audit_placement.proofs.Turns.{lanes_more}
use Rattle.audit_placement.proofs.clean.note_lanes.Goals as goal

pub lanes-preserved : goal.lanes-preserved
lanes-preserved c = λ empty.
    let items = c.args.lanes.now in
    let i = c.lanes.lane-index in
    subst (IsClean (taken c.args.intake.now) (key_at c.note_lane.new.keys)) (sym (lanes_more items i c.lane-item.result (omega arith) c.lane-item.is))
    (c.if-not-note_lane.ensures i (lanes_entries 0 (take i items)) (c.lanes.invariant empty))
