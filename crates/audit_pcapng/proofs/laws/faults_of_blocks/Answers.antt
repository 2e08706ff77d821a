use Rattle.audit_pcapng.proofs.FaultsShown.{faults_of_blocks}
use Rattle.audit_pcapng.proofs.laws.faults_of_blocks.Goals as goal

pub returns : goal.returns
returns c = faults_of_blocks
