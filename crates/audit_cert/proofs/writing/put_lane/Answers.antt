use Rattle.std.proofs.lemmas.Result.{err_from_is_err_and}
use Rattle.std.specs.List.{flat_map}
use Rattle.audit_cert.specs.Spelling.{lane_line, event_line}
use Rattle.audit_cert.proofs.Writings.{stopped_first, puts_then}
use Rattle.audit_cert.proofs.writing.put_lane.Goals as goal

pub returns-in_err-put_lane_line : goal.returns-in_err-put_lane_line
returns-in_err-put_lane_line g c =
    let p = err_from_is_err_and c.from_residual.result c.from_residual.ensures.1 in
    rw (p.1, p.2) (stopped_first (lane_line c.args.lane.now) (flat_map event_line c.args.lane.now.events) c.in_err-put_lane_line.field-0.0 _ c.in_err-put_lane_line.ensures)

pub returns : goal.returns
returns g c = puts_then (lane_line c.args.lane.now) (flat_map event_line c.args.lane.now.events) c.put_events.result _ _ _ _ _ _ c.in_ok-put_lane_line.ensures (rw c.as_slice.ensures at c.put_events.ensures)
