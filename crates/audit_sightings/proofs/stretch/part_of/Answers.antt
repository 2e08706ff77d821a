use Rattle.std.proofs.Common.{arith}
use Rattle.audit_sightings.proofs.StretchSteps.{part_is}
use Rattle.audit_sightings.proofs.stretch.part_of.Goals as goal

pub returns : goal.returns
returns c = part_is c.args.packets.now c.args.number c.min-start.result c.min-end.result (omega arith) (omega arith)
