use Rattle.audit_server.specs.Captured.{rules_of}
use Rattle.audit_server.proofs.Once.{named}
use Rattle.audit_server.proofs.laws.one_client_acts.Goals as goal

pub returns : goal.returns
returns c = λ policy key_for sighting before act rest run once client arrival gives s. named (rules_of policy key_for sighting) before act rest run once client arrival gives s
