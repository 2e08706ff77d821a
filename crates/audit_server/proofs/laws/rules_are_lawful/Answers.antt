use Rattle.audit_server.proofs.Lawful.{lawful}
use Rattle.audit_server.proofs.laws.rules_are_lawful.Goals as goal

pub returns : goal.returns
returns c = λ policy key_for sighting. lawful policy key_for sighting
