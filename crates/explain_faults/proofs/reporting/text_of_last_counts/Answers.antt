use Rattle.std.proofs.Common.{◌≡◌, ◌++◌, ℕ, List, string_bytes, decimal, codes, ◌∙◌}
use Rattle.std.proofs.lemmas.Result.{IfOk-weaker}
use Rattle.explain_faults.proofs.reporting.text_of_last_counts.Goals as goal

-- the text with these numbers
abbrev text_at : ℕ → ℕ → ℕ → ℕ → ℕ → List ℕ
text_at unpermitted unbound unfit unauthentic datagrams =
    codes " unpermitted " ++ (decimal unpermitted ++ (codes " unbound " ++ (decimal unbound ++ (codes " unfit " ++ (decimal unfit ++ (codes " unauthentic " ++ (decimal unauthentic ++ (codes " of " ++ (decimal datagrams ++ codes " datagrams\n")))))))))

same_text : (a b c d e a' b' c' d' e' : ℕ) → a ≡ a' → b ≡ b' → c ≡ c' → d ≡ d' → e ≡ e' → text_at a b c d e ≡ text_at a' b' c' d' e'
same_text a b c d e a' b' c' d' e' h i j k l = cc

pub returns : goal.returns
returns c =
    IfOk-weaker c.format.result _ _
    (λ text same.
    let written : string_bytes text ≡ text_at c.number-unpermitted.result c.number-unbound.result c.number-unfit.result c.number-unauthentic.result c.counts-datagrams.result.1 = same in
    written ∙ same_text _ _ _ _ _ _ _ _ _ _ c.number-unpermitted.ensures c.number-unbound.ensures c.number-unfit.ensures c.number-unauthentic.ensures c.counts-datagrams.ensures.sightings)
    c.format.ensures.ok
