use Rattle.std.proofs.Common.{◌≡◌, ℕ, List, IfOk, ap, subst, ◌∙◌}
use Rattle.hex.specs.Hex.{encode_lower}
use Rattle.prep_comment.specs.Sections.{section_of}
use Rattle.prep_program.specs.CutComment.{comment_text}
use Rattle.prep_program.proofs.cut_comment.section_of_cut.Goals as goal

pub returns : goal.returns
returns c =
    let digits : c.as_str.result.now ≡ encode_lower c.args.digest.now = c.as_str.ensures.value ∙ c.in_ok-digest.ensures in
    let text : c.as_str-2.result.now ≡ comment_text c.args.totals.now (encode_lower c.args.digest.now) =
    c.as_str-2.ensures.value ∙ c.in_ok-text.ensures ∙ ap (comment_text c.args.totals.now) digits in
    subst (λ (t : List ℕ). IfOk c.comment_section.result (λ section. section.items ≡ section_of t)) text c.comment_section.ensures
