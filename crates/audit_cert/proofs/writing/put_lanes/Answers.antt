use Rattle.std.proofs.lemmas.Result.{err_from_is_err_and}
use Rattle.audit_cert.specs.Spelling.{lane_lines}
use Rattle.audit_cert.proofs.Writings.{went_more, stopped_more}
use Rattle.audit_cert.proofs.writing.put_lanes.Goals as goal

pub returns-in_err-put_lane : goal.returns-in_err-put_lane
returns-in_err-put_lane g c =
    let p = err_from_is_err_and c.from_residual.result c.from_residual.ensures.1 in
    rw (p.1, p.2) (stopped_more lane_lines c.args.lanes.now c.loop-lane.lane-index c.lane-item.result c.in_err-put_lane.field-0.0 _ _ _ _ _ _ c.loop-lane-test.true c.lane-item.is c.loop-lane.invariant c.in_err-put_lane.ensures)

pub loop-lane-preserved : goal.loop-lane-preserved
loop-lane-preserved g c =
    went_more lane_lines c.args.lanes.now c.loop-lane.lane-index c.lane-item.result _ _ _ _ _ _ c.loop-lane-test.true c.lane-item.is c.loop-lane.invariant c.in_ok-put_lane.ensures
