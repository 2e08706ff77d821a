use Rattle.audit_whole.proofs.Departures.{relayed_up}
use Rattle.audit_whole.proofs.laws.relay_addresses.Goals as goal

pub returns : goal.returns
returns c = relayed_up
