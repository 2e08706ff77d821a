use Rattle.std.proofs.Common.{◌≡◌, length, arith}
use Rattle.std.proofs.lemmas.Bool.Decides.{nat_tests}
use Rattle.audit_sightings.proofs.Zipped.{stops_first}
use Rattle.audit_sightings.proofs.add_packets.take_together.Goals as goal

pub returns-in-Err-clause-err : goal.returns-in-Err-clause-err
returns-in-Err-clause-err c = stops_first c.args.policy.now c.args.interfaces.now c.args.file c.args.packets.now (λ (none : length c.args.packets.now ≡ 0). absurd (grind (arith, nat_tests, none, c.if-is_empty.ensures, c.if-is_empty.false)))
