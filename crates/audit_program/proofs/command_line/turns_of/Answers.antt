use Rattle.audit_program.proofs.command_line.turns_of.Goals as goal

pub returns-in_default-clause-none : goal.returns-in_default-clause-none
returns-in_default-clause-none c idle most is_idle is_most = c.in_default.ensures.none idle is_idle

pub returns-in_default-number_of-clause-none : goal.returns-in_default-number_of-clause-none
returns-in_default-number_of-clause-none c idle most is_idle is_most = c.in_default-number_of.ensures.none most is_most
