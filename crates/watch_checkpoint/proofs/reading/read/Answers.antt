use Rattle.watch_checkpoint.proofs.Laws.{is_text, is_only}
use Rattle.watch_checkpoint.proofs.reading.read.Goals as goal

pub returns-clause-found : goal.returns-clause-found
returns-clause-found c = is_text c.args.grace c.args.bytes.now c.read_lines.result c.read_lines.ensures.ok

pub returns-clause-only : goal.returns-clause-only
returns-clause-only c content is spelled = is_only c.args.grace c.args.bytes.now c.read_lines.result c.read_lines.ensures.ok c.read_lines.ensures.why content is spelled
