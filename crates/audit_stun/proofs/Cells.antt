-- Lists by their first cells.
use Rattle.std.proofs.Common.{◌≡◌, ℕ, zero, suc, ◌<◌, ◌≤◌, List, [], ◌∷◌, length, get_or, drop, refl, arith}
use Rattle.audit_stun.proofs.Attributes.{IsBytes}

pub first_four : (b : List ℕ) → 4 ≤ length b → b ≡ get_or b 0 0 ∷ get_or b 1 0 ∷ get_or b 2 0 ∷ get_or b 3 0 ∷ drop 4 b
first_four [] h = absurd (omega arith)
first_four (b0 ∷ []) h = absurd (omega arith)
first_four (b0 ∷ b1 ∷ []) h = absurd (omega arith)
first_four (b0 ∷ b1 ∷ b2 ∷ []) h = absurd (omega arith)
first_four (b0 ∷ b1 ∷ b2 ∷ b3 ∷ rest) h = refl

pub first_eight : (b : List ℕ) → 8 ≤ length b → b ≡ get_or b 0 0 ∷ get_or b 1 0 ∷ get_or b 2 0 ∷ get_or b 3 0 ∷ get_or b 4 0 ∷ get_or b 5 0 ∷ get_or b 6 0 ∷ get_or b 7 0 ∷ drop 8 b
first_eight [] h = absurd (omega arith)
first_eight (b0 ∷ []) h = absurd (omega arith)
first_eight (b0 ∷ b1 ∷ []) h = absurd (omega arith)
first_eight (b0 ∷ b1 ∷ b2 ∷ []) h = absurd (omega arith)
first_eight (b0 ∷ b1 ∷ b2 ∷ b3 ∷ []) h = absurd (omega arith)
first_eight (b0 ∷ b1 ∷ b2 ∷ b3 ∷ b4 ∷ []) h = absurd (omega arith)
first_eight (b0 ∷ b1 ∷ b2 ∷ b3 ∷ b4 ∷ b5 ∷ []) h = absurd (omega arith)
first_eight (b0 ∷ b1 ∷ b2 ∷ b3 ∷ b4 ∷ b5 ∷ b6 ∷ []) h = absurd (omega arith)
first_eight (b0 ∷ b1 ∷ b2 ∷ b3 ∷ b4 ∷ b5 ∷ b6 ∷ b7 ∷ rest) h = refl

pub two_fit : (a b : ℕ) → a < 256 → b < 256 → IsBytes (a ∷ b ∷ [])
two_fit a b ha hb zero = ha
two_fit a b ha hb (suc zero) = hb
two_fit a b ha hb (suc (suc i)) = omega arith

pub four_fit : (a b c d : ℕ) → a < 256 → b < 256 → c < 256 → d < 256 → IsBytes (a ∷ b ∷ c ∷ d ∷ [])
four_fit a b c d ha hb hc hd zero = ha
four_fit a b c d ha hb hc hd (suc zero) = hb
four_fit a b c d ha hb hc hd (suc (suc zero)) = hc
four_fit a b c d ha hb hc hd (suc (suc (suc zero))) = hd
four_fit a b c d ha hb hc hd (suc (suc (suc (suc i)))) = omega arith
