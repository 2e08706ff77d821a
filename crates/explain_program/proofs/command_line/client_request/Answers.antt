use Rattle.clap.specs.Words.{found_of, rows_of}
use Rattle.explain_program.proofs.Naming.{no_client}
use Rattle.explain_program.proofs.command_line.client_request.Goals as goal

pub returns-in_default-clause-none : goal.returns-in_default-clause-none
returns-in_default-clause-none c =
    no_client (rows_of (found_of c.args.matches.now)) (λ number events is_number is_events. c.in_default.ensures.none number is_number)

pub returns-in_default-number_of-clause-none : goal.returns-in_default-number_of-clause-none
returns-in_default-number_of-clause-none c =
    no_client (rows_of (found_of c.args.matches.now)) (λ number events is_number is_events. c.in_default-number_of.ensures.none events is_events)
