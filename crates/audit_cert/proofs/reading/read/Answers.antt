use Rattle.audit_cert.proofs.Laws.{is_found, is_only}
use Rattle.audit_cert.proofs.reading.read.Goals as goal

pub returns-clause-found : goal.returns-clause-found
returns-clause-found c = is_found c.args.text.now c.read_text.result c.read_text.ensures

pub returns-clause-only : goal.returns-clause-only
returns-clause-only c said is spelled = is_only c.args.text.now c.read_text.result c.read_text.ensures said is spelled
