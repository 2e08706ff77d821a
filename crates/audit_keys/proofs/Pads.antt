-- A pad laid upon the bytes of a block, one after the other.
use Rattle.std.proofs.Common.{◌≡◌, ℕ, zero, suc, ◌+◌, ◌<◌, List, [], ◌∷◌, ◌++◌, length, map, take, drop, get_or, set, refl, sym, ap, ◌∙◌, add-one, arith}
use Rattle.std.specs.Prelude.{bit_xor}

-- the first i bytes have the pad upon them
abbrev pub padded_to : ℕ → List ℕ → ℕ → List ℕ
padded_to pad xs i = map (λ b. bit_xor b pad) (take i xs) ++ drop i xs

one_more : (pad : ℕ) (xs : List ℕ) (i : ℕ) → i < length xs →
    set (padded_to pad xs i) i (bit_xor (get_or (padded_to pad xs i) i 0) pad) ≡ padded_to pad xs (suc i)
one_more pad [] i h = absurd (omega arith)
one_more pad (x ∷ xs) zero h = refl
one_more pad (x ∷ xs) (suc i) h = ap (λ (l : List ℕ). bit_xor x pad ∷ l) (one_more pad xs i (omega arith))

pub padded_more : (pad : ℕ) (xs ys : List ℕ) (i : ℕ) → i < length xs → ys ≡ padded_to pad xs i →
    set ys i (bit_xor (get_or ys i 0) pad) ≡ padded_to pad xs (i + 1)
padded_more pad xs ys i h e =
    ap (λ (l : List ℕ). set l i (bit_xor (get_or l i 0) pad)) e ∙ one_more pad xs i h ∙ ap (padded_to pad xs) (sym (add-one i))
