use Rattle.std.proofs.Common.{◌∙◌, arith}
use Rattle.audit_text.proofs.Numbers.{number_found, number_only}
use Rattle.audit_text.proofs.token.number.Goals as goal

pub returns-clause-found : goal.returns-clause-found
returns-clause-found c = rw c.read_number.ensures (number_found c.args.most c.args.word.now (omega arith))

pub returns-clause-only : goal.returns-clause-only
returns-clause-only c n le spelled = c.read_number.ensures ∙ number_only c.args.most n c.args.word.now le (omega arith) spelled
