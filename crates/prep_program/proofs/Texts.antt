-- Texts that are put together.
use Rattle.std.proofs.Common.{◌≡◌, ◌++◌, ℕ, List, ap, ◌∙◌}

-- a text with one more
pub with_more : (whole before more a b : List ℕ) → whole ≡ before ++ more → before ≡ a → more ≡ b → whole ≡ a ++ b
with_more whole before more a b e f g = e ∙ ap (λ (t : List ℕ). t ++ more) f ∙ ap (λ (t : List ℕ). a ++ t) g
