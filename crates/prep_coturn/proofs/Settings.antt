-- Settings, line by line.
use Rattle.std.proofs.Common.{◌≡◌, ℕ, ◌+◌, List, [], ◌∷◌, ◌++◌, Option, Some, None, refl, ap, ◌∙◌}
use Rattle.audit_text.specs.Lines.{Pieces}
use Rattle.audit_text.specs.Token.{cut_of}
use Rattle.audit_text.proofs.Broken.{cut_is, pieces-uncut}
use Rattle.prep_coturn.specs.Rows.{Setting, line_of, lines_in, settings_from, with_more}

abbrev listed : Pieces → List (List ℕ)
listed p = p.first ∷ p.more

one_and : (one : Option Setting) (more : List Setting) → with_more one more ≡ with_more one [] ++ more
one_and None more = refl
one_and (Some one) more = refl

-- a line that is cut off goes before those of the rest
pub cut_off : (line : ℕ) (text one others : List ℕ) → cut_of 10 text ≡ Some (one, others) →
    settings_from line (lines_in text) ≡ with_more (line_of line one) [] ++ settings_from (line + 1) (lines_in others)
cut_off line text one others e = ap (λ (p : Pieces). settings_from line (listed p)) (cut_is text one others e).pieces-is ∙ one_and (line_of line one) (settings_from (line + 1) (lines_in others))

-- and what isn't cut is the last line
pub last_line : (line : ℕ) (text : List ℕ) → cut_of 10 text ≡ None → settings_from line (lines_in text) ≡ with_more (line_of line text) []
last_line line text e = ap (λ (p : Pieces). settings_from line (listed p)) (pieces-uncut text e)
