use Rattle.audit_pcapng.proofs.OneReading.{fault_kept, packets_kept, packets_before}
use Rattle.audit_pcapng.proofs.laws.kept_by_longer_texts.Goals as goal

pub returns-clause-fault : goal.returns-clause-fault
returns-clause-fault c = fault_kept

pub returns-clause-packets : goal.returns-clause-packets
returns-clause-packets c = packets_kept

pub returns-clause-packets_before : goal.returns-clause-packets_before
returns-clause-packets_before c = packets_before
