use Rattle.std.proofs.Common.{◌≡◌, drop}
use Rattle.prep_look.specs.PolicyLines.{last_port}
use Rattle.prep_look.proofs.granting.last_port.Given as goal

abbrev pub invariant-loop-one : goal.invariant-loop-one
invariant-loop-one l = last_port l.last (drop l.one-index l.granted) ≡ last_port l.port l.granted
