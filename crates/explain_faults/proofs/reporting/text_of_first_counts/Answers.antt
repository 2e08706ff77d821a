use Rattle.std.proofs.Common.{◌≡◌, ◌++◌, ℕ, List, string_bytes, decimal, codes, length, ◌∙◌}
use Rattle.std.proofs.lemmas.Result.{IfOk-weaker}
use Rattle.explain_faults.proofs.reporting.text_of_first_counts.Goals as goal

-- the text with these numbers
abbrev text_at : ℕ → ℕ → ℕ → ℕ → List ℕ
text_at all unasked unallocated begun = codes "shown " ++ (decimal all ++ (codes " unasked " ++ (decimal unasked ++ (codes " unallocated " ++ (decimal unallocated ++ (codes " of which not begun " ++ decimal begun))))))

same_text : (all a b c a' b' c' : ℕ) → a ≡ a' → b ≡ b' → c ≡ c' → text_at all a b c ≡ text_at all a' b' c'
same_text all a b c a' b' c' h i j = cc

pub returns : goal.returns
returns c =
    IfOk-weaker c.format.result _ _
    (λ text same.
    let written : string_bytes text ≡ text_at (length c.args.faults.now) c.number-unasked.result c.number-unallocated.result c.not_begun-not_begun.result = same in
    written ∙ same_text _ _ _ _ _ _ _ c.number-unasked.ensures c.number-unallocated.ensures c.not_begun-not_begun.ensures)
    c.format.ensures.ok
