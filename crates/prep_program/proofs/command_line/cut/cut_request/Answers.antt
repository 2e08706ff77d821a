use Rattle.std.proofs.Common.{List, Some, IfNone, codes, subst}
use Rattle.clap.specs.Words.{Text, found_of, rows_of}
use Rattle.prep_program.specs.Requests.{HasCaptures}
use Rattle.prep_program.proofs.Naming.{no_cut}
use Rattle.prep_program.proofs.command_line.cut.cut_request.Goals as goal

pub returns-in_default-2-clause-some : goal.returns-in_default-2-clause-some
returns-in_default-2-clause-some c =
    let rows = rows_of (found_of c.args.matches.now) in
    let none = subst (λ found. IfNone found ((names : List Text) → HasCaptures rows names → ⊥)) c.in_default-2.is c.in_ok-captures.ensures.none in
    c.usage.ensures.some (Some (codes "cut", rows)) (no_cut rows (λ names policy folder stated captures is_policy is_folder is_stated. none names captures))

pub returns-in-Err-clause-some : goal.returns-in-Err-clause-some
returns-in-Err-clause-some c =
    let rows = rows_of (found_of c.args.matches.now) in
    c.usage-in-Err.ensures.some (Some (codes "cut", rows)) (no_cut rows (λ names policy folder stated captures is_policy is_folder is_stated. c.in-Err.ensures.err stated is_stated))
