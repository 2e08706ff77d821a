use Rattle.audit_server.specs.Captured.{rules_of}
use Rattle.audit_server.proofs.Lawful.{lawful}
use Rattle.audit_server.proofs.Whole.{held as held_at}
use Rattle.audit_server.proofs.laws.held.Goals as goal

pub returns : goal.returns
returns c = λ policy key_for sighting pairs before event rest distinct. held_at (rules_of policy key_for sighting) (lawful policy key_for sighting) pairs distinct before event rest
