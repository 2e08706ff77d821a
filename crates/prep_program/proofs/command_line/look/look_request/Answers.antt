use Rattle.std.proofs.Common.{◌≡◌, ◌∙◌, ℕ, List, Option, None, Some, IfNone, ap, codes, option_map, subst, unwrap_or}
use Rattle.clap.specs.Words.{Text, found_of, rows_of}
use Rattle.prep_program.specs.Requests.{HasCaptures}
use Rattle.prep_program.proofs.Naming.{no_look}
use Rattle.prep_program.proofs.command_line.look.look_request.Goals as goal

pub returns-in_default-clause-some : goal.returns-in_default-clause-some
returns-in_default-clause-some c =
    let rows = rows_of (found_of c.args.matches.now) in
    let none = subst (λ found. IfNone found ((names : List Text) → HasCaptures rows names → ⊥)) c.in_default.is c.in_ok-captures.ensures.none in
    c.usage.ensures.some (Some (codes "look", rows)) (no_look rows (λ names lifetime captures is_lifetime. none names captures))

pub returns-in_default-number_of-clause-some : goal.returns-in_default-number_of-clause-some
returns-in_default-number_of-clause-some c =
    let rows = rows_of (found_of c.args.matches.now) in
    c.usage-in_default-number_of.ensures.some (Some (codes "look", rows)) (no_look rows (λ names lifetime captures is_lifetime.
    absurd (let bad : None ≡ Some lifetime = ap (option_map (λ (stated : Option ℕ). unwrap_or stated 3600)) c.in_default-number_of.ensures ∙ is_lifetime in cc)))
