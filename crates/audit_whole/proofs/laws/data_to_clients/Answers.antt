use Rattle.audit_whole.proofs.ToClients.{are_relayed}
use Rattle.audit_whole.proofs.laws.data_to_clients.Goals as goal

pub returns : goal.returns
returns c = are_relayed
