use Rattle.std.proofs.Common.{List, Some, IfNone, codes, subst}
use Rattle.clap.specs.Words.{Text, found_of, rows_of}
use Rattle.prep_program.specs.Requests.{HasCaptures}
use Rattle.prep_program.proofs.Naming.{no_reassemble}
use Rattle.prep_program.proofs.command_line.reassemble.reassemble_request.Goals as goal

pub returns-in_default-2-clause-some : goal.returns-in_default-2-clause-some
returns-in_default-2-clause-some c =
    let rows = rows_of (found_of c.args.matches.now) in
    let none = subst (λ found. IfNone found ((names : List Text) → HasCaptures rows names → ⊥)) c.in_default-2.is c.in_ok-captures.ensures.none in
    c.usage.ensures.some (Some (codes "reassemble", rows)) (no_reassemble rows (λ names folder captures is_folder. none names captures))
