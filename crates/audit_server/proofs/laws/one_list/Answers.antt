use Rattle.audit_server.proofs.Along.{keeps_order}
use Rattle.audit_server.proofs.Unique.{unique}
use Rattle.audit_server.proofs.Verdict.{glued_rises, same_lanes}
use Rattle.audit_server.proofs.laws.one_list.Goals as goal

pub returns-clause-order : goal.returns-clause-order
returns-clause-order c = glued_rises

pub returns-clause-each : goal.returns-clause-each
returns-clause-each c = same_lanes

pub returns-clause-alone : goal.returns-clause-alone
returns-clause-alone c = unique

pub returns-clause-along : goal.returns-clause-along
returns-clause-along c = keeps_order
