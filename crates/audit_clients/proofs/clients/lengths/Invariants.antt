use Rattle.std.proofs.Common.{◌≡◌, length, take, map}
use Rattle.audit_sightings.specs.Intake.{taken}
use Rattle.audit_clients.proofs.clients.lengths.Given as goal

abbrev pub invariant-interfaces : goal.invariant-interfaces
invariant-interfaces l = l.lengths.items ≡ map (λ row. length row) (take l.iface (taken l.intake).interfaces)
