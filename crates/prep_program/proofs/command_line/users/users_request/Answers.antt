use Rattle.std.proofs.Common.{Some, codes}
use Rattle.clap.specs.Words.{found_of, rows_of}
use Rattle.prep_program.proofs.Naming.{no_users}
use Rattle.prep_program.proofs.command_line.users.users_request.Goals as goal

pub returns-in_default-clause-some : goal.returns-in_default-clause-some
returns-in_default-clause-some c =
    let rows = rows_of (found_of c.args.matches.now) in
    c.usage.ensures.some (Some (codes "users", rows)) (no_users rows (λ source is. c.in_default.ensures.none source is))
