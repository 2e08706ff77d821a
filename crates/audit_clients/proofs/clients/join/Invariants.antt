use Rattle.std.proofs.Common.{◌≡◌, take}
use Rattle.audit_clients.specs.Clients.{joined, pairs_of}
use Rattle.audit_clients.proofs.clients.join.Given as goal

abbrev pub invariant-loop-sighting : goal.invariant-loop-sighting
invariant-loop-sighting l = l.pairs ≡ joined l.fn.pairs (pairs_of l.policy (take l.sighting-index l.row))
