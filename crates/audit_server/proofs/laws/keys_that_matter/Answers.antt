use Rattle.audit_server.proofs.KeyRuns.{same_run, agree_back}
use Rattle.audit_server.proofs.laws.keys_that_matter.Goals as goal

pub returns : goal.returns
returns c = λ policy one other sighting steps agree. (same_run policy one other sighting steps agree, same_run policy other one sighting steps (agree_back one other sighting steps agree))
