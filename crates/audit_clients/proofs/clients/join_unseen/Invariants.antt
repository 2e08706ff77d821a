use Rattle.std.proofs.Common.{◌≡◌, drop}
use Rattle.audit_sightings.specs.Intake.{taken}
use Rattle.audit_clients.specs.Clients.{joined, pairs_of, unseen, with_new}
use Rattle.audit_clients.proofs.clients.join_unseen.Given as goal

abbrev pub invariant-interfaces : goal.invariant-interfaces
invariant-interfaces l = joined l.pairs (pairs_of (taken l.intake).policy (unseen l.looked l.iface (drop l.iface (taken l.intake).interfaces)))
    ≡ with_new l.looked (taken l.intake) l.fn.pairs
