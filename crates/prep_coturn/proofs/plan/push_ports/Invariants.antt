use Rattle.std.proofs.Common.{◌≡◌, ◌++◌, map, take}
use Rattle.prep_coturn.specs.Plans.{addr_at}
use Rattle.prep_coturn.proofs.plan.push_ports.Given as goal

abbrev pub invariant-loop-port : goal.invariant-loop-port
invariant-loop-port l = l.listens.items ≡ l.fn.listens.items ++ map (addr_at l.ip) (take l.port-index l.ports)
