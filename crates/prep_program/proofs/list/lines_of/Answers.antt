use Rattle.std.proofs.Common.{◌≡◌, ◌∙◌, ◌++◌, ℕ, List, [], ◌∷◌, refl, sym, ap, drop, string_bytes}
use Rattle.std.proofs.lemmas.List.{append-nil, nil_from_length}
use Rattle.prep_cut.specs.declared.reason.Reason.{Reason}
use Rattle.prep_cut.specs.declared.tally.Tally.{Tally}
use Rattle.prep_program.specs.ListText.{lines_text}
use Rattle.prep_program.proofs.list.lines_of.Goals as goal

no_more : (lines : List Reason) → lines_text lines [] ≡ []
no_more [] = refl
no_more (reason ∷ lines) = refl

pub returns-in_default : goal.returns-in_default
returns-in_default c =
    let none : c.loop-reason.rest.now ≡ [] = nil_from_length c.loop-reason.rest.now c.in_default.ensures.cases in
    let rest = drop c.loop-reason.reason-index c.args.lines.now in
    sym (append-nil (string_bytes c.loop-reason.text))
    ∙ ap (λ (t : List ℕ). string_bytes c.loop-reason.text ++ t) (sym (no_more rest) ∙ ap (λ (t : List Tally). lines_text rest t) (sym none))
    ∙ c.loop-reason.invariant
