use Rattle.std.proofs.Common.{codes, ◌++◌}
use Rattle.std.specs.List.{flat_map}
use Rattle.audit_cert.specs.Spelling.{lane_lines, drop_line, front}
use Rattle.audit_cert.proofs.Writings.{puts_then}
use Rattle.audit_cert.proofs.parallel.put_in_blocks.Goals as goal

pub returns : goal.returns
returns g c = puts_then (front c.args.certificate.now.skews) (flat_map lane_lines c.args.certificate.now.lanes ++ (flat_map drop_line c.args.certificate.now.drops ++ codes "end\n")) c.put_lanes_on.result _ _ _ _ _ _ (rw c.as_slice.ensures at c.in_ok-put_front.ensures) c.put_lanes_on.ensures
