use Rattle.std.proofs.Common.{◌≡◌, ◌∙◌, Bool, List, None, Some, codes, false, true}
use Rattle.clap.proofs.WalkLemmas.{one_text-rows}
use Rattle.clap.specs.Words.{Row, Text, found_of, one_of, rows_of}
use Rattle.prep_program.specs.Requests.{HasFlag}
use Rattle.prep_program.proofs.command_line.values.flag_of.Goals as goal

has_flag : (name : Text) (rows : List Row) (flag : Bool) → (one_of name rows ≡ None → flag ≡ false) → (one_of name rows ≡ Some (codes "true") → flag ≡ true)
    → (one_of name rows ≡ Some (codes "false") → flag ≡ false) → HasFlag name rows flag
has_flag name rows true none value other = (λ is. absurd (let bad : true ≡ false = none is in cc), λ is. absurd (let bad : true ≡ false = other is in cc))
has_flag name rows false none value other = λ is. absurd (let bad : false ≡ true = value is in cc)

pub returns : goal.returns
returns c =
    let found = found_of c.args.matches.now in
    let same = one_text-rows found c.args.name.now in
    has_flag c.args.name.now (rows_of found) c.get_flag.result (λ is. c.get_flag.ensures.none (same ∙ is)) (λ is. c.get_flag.ensures.value (same ∙ is)) (λ is. c.get_flag.ensures.other (same ∙ is))
