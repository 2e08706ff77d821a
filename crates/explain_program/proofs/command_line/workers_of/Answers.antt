use Rattle.explain_program.proofs.command_line.workers_of.Goals as goal

pub returns-in_default-clause-none : goal.returns-in_default-clause-none
returns-in_default-clause-none c any is = c.in_default.ensures.none any.count is
