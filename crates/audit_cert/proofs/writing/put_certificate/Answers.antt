use Rattle.std.proofs.Common.{codes, ◌++◌}
use Rattle.std.proofs.lemmas.Result.{err_from_is_err_and}
use Rattle.std.specs.List.{flat_map}
use Rattle.audit_cert.specs.Spelling.{lane_lines, drop_line, front}
use Rattle.audit_cert.proofs.Writings.{stopped_first, puts_then}
use Rattle.audit_cert.proofs.writing.put_certificate.Goals as goal

pub returns-in_err-put_front : goal.returns-in_err-put_front
returns-in_err-put_front g c =
    let p = err_from_is_err_and c.from_residual.result c.from_residual.ensures.1 in
    rw (p.1, p.2) (stopped_first (front c.args.certificate.now.skews) (flat_map lane_lines c.args.certificate.now.lanes ++ (flat_map drop_line c.args.certificate.now.drops ++ codes "end\n")) c.in_err-put_front.field-0.0 _ (rw c.as_slice.ensures at c.in_err-put_front.ensures))

pub returns : goal.returns
returns g c = puts_then (front c.args.certificate.now.skews) (flat_map lane_lines c.args.certificate.now.lanes ++ (flat_map drop_line c.args.certificate.now.drops ++ codes "end\n")) c.put_lanes_on.result _ _ _ _ _ _ (rw c.as_slice.ensures at c.in_ok-put_front.ensures) c.put_lanes_on.ensures
