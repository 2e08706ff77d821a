use Rattle.std.proofs.Common.{◌≡◌, take}
use Rattle.prep_coturn.specs.Plans.{listens_at}
use Rattle.prep_coturn.proofs.plan.listens.Given as goal

abbrev pub invariant-loop-ip : goal.invariant-loop-ip
invariant-loop-ip l = l.listens.items ≡ listens_at (take l.ip-index l.ips) l.ports
