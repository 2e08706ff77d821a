use Rattle.std.proofs.Common.{◌≤◌, ap, length, arith}
use Rattle.std.proofs.lemmas.Bool.{leb-true}
use Rattle.audit_sightings.specs.Intake.{taken, interface_at}
use Rattle.audit_machine.specs.Counts.{count_of}
use Rattle.audit_machine.proofs.Judging.{row_there}
use Rattle.audit_machine.proofs.machine.Machine.has_row.Goals as goal

pub returns : goal.returns
returns c h s same is =
    let le : count_of c.args.self.now.placed c.args.iface ≤ length (interface_at (taken c.args.intake.now) c.args.iface) = omega (arith, leb-true c.get.result (length c.interface.result.now) h, c.get.ensures, ap length c.interface.ensures.exact) in
    row_there (taken c.args.intake.now) (count_of c.args.self.now.placed) c.args.iface le s same is
