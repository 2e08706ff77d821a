use Rattle.clap.specs.Words.{found_of, rows_of}
use Rattle.audit_program.proofs.Naming.{no_live}
use Rattle.audit_program.proofs.command_line.live_request.Goals as goal

pub returns-in_default-clause-none : goal.returns-in_default-clause-none
returns-in_default-clause-none c =
    no_live (rows_of (found_of c.args.matches.now)) (λ inputs turns named idle most. c.in_default.ensures.none turns.idle turns.most idle most)
