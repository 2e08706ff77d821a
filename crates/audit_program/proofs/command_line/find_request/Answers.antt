use Rattle.clap.specs.Words.{found_of, rows_of}
use Rattle.audit_program.proofs.Naming.{no_find}
use Rattle.audit_program.proofs.command_line.find_request.Goals as goal

pub returns-in_default-clause-none : goal.returns-in_default-clause-none
returns-in_default-clause-none c =
    no_find (rows_of (found_of c.args.matches.now)) (λ inputs workers named number. c.in_default.ensures.none workers number)
