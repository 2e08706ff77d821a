use Rattle.std.proofs.Common.{Some, codes}
use Rattle.clap.specs.Words.{found_of, rows_of}
use Rattle.prep_program.proofs.Naming.{no_ready}
use Rattle.prep_program.proofs.command_line.ready.ready_request.Goals as goal

pub returns-in_default-source_of-clause-some : goal.returns-in_default-source_of-clause-some
returns-in_default-source_of-clause-some c =
    let rows = rows_of (found_of c.args.matches.now) in
    c.usage.ensures.some (Some (codes "ready", rows)) (no_ready rows (λ source folder names stated is_source is_folder is_names is_stated. c.in_default-source_of.ensures.none source is_source))

pub returns-in-Err-clause-some : goal.returns-in-Err-clause-some
returns-in-Err-clause-some c =
    let rows = rows_of (found_of c.args.matches.now) in
    c.usage-in-Err.ensures.some (Some (codes "ready", rows)) (no_ready rows (λ source folder names stated is_source is_folder is_names is_stated. c.in-Err.ensures.err stated is_stated))
