-- The bytes of a section with a comment, put together piece by piece.
use Rattle.std.proofs.Common.{◌≡◌, ◌≤◌, ◌+◌, ◌-◌, ℕ, zero, suc, List, [], ◌∷◌, ◌++◌, length, take, replicate, refl, ap, ◌∙◌, arith}
use Rattle.std.specs.Int.{w16, w32, to_le_bytes}
use Rattle.audit_pcapng.specs.Numbers.{padded}
use Rattle.prep_comment.specs.Sections.{section_of, whole_of}

abbrev pub type_bytes : List ℕ
type_bytes = 0x0A ∷ 0x0D ∷ 0x0D ∷ 0x0A ∷ []

abbrev pub head_bytes : List ℕ
head_bytes = 0x4D ∷ 0x3C ∷ 0x2B ∷ 0x1A ∷ 1 ∷ 0 ∷ 0 ∷ 0 ∷ 255 ∷ 255 ∷ 255 ∷ 255 ∷ 255 ∷ 255 ∷ 255 ∷ 255 ∷ 1 ∷ 0 ∷ []

abbrev pub end_bytes : List ℕ
end_bytes = 0 ∷ 0 ∷ 0 ∷ 0 ∷ []

zeros : (n : ℕ) → n ≤ 3 → take n end_bytes ≡ replicate n 0
zeros zero few = refl
zeros (suc zero) few = refl
zeros (suc (suc zero)) few = refl
zeros (suc (suc (suc zero))) few = refl
zeros (suc (suc (suc (suc n)))) few = absurd (omega (arith, few))

small : (n : ℕ) → padded n - n ≤ 3
small n = omega arith

total_is : (n fill : ℕ) → fill ≡ padded n - n → 36 + n + fill ≡ 36 + padded n
total_is n fill e = omega (arith, e)

put_text : (text : List ℕ) (fill : ℕ) → fill ≡ padded (length text) - length text
    → (((((((type_bytes ++ to_le_bytes w32 (36 + length text + fill)) ++ head_bytes) ++ to_le_bytes w16 (length text)) ++ text) ++ take fill end_bytes) ++ end_bytes) ++ to_le_bytes w32 (36 + length text + fill))
    ≡ whole_of text
put_text text fill e = rw (total_is (length text) fill e, ap (λ (n : ℕ). take n end_bytes) e ∙ zeros (padded (length text) - length text) (small (length text))) refl

pub put : (comment text : List ℕ) (fill : ℕ) (items : List ℕ) → text ≡ take 4096 comment → fill ≡ padded (length text) - length text
    → items ≡ (((((((type_bytes ++ to_le_bytes w32 (36 + length text + fill)) ++ head_bytes) ++ to_le_bytes w16 (length text)) ++ text) ++ take fill end_bytes) ++ end_bytes) ++ to_le_bytes w32 (36 + length text + fill))
    → items ≡ section_of comment
unfolding section_of
put comment text fill items e f g = g ∙ put_text text fill f ∙ ap whole_of e
