use Rattle.audit_live.proofs.Breaking.{stops_on}
use Rattle.audit_live.proofs.laws.breaches_are_those_of_the_walk.Goals as goal

pub returns : goal.returns
returns c = stops_on
