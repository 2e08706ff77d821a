-- How long a section with a comment is.
use Rattle.std.proofs.Common.{◌≡◌, ◌+◌, ◌-◌, ℕ, List, [], ◌∷◌, ◌++◌, length, replicate, ap, ◌∙◌, arith}
use Rattle.std.specs.Int.{w32, to_le_bytes}
use Rattle.std.proofs.lemmas.List.{length-append, length-replicate}
use Rattle.audit_pcapng.specs.Numbers.{padded}
use Rattle.prep_comment.specs.Sections.{body_of, total_of, whole_of}

-- all before the second length
abbrev pub front_of : List ℕ → List ℕ
front_of text = (0x0A ∷ 0x0D ∷ 0x0D ∷ 0x0A ∷ []) ++ (to_le_bytes w32 (total_of text) ++ body_of text)

pub filled : (n : ℕ) → n + (padded n - n) ≡ padded n
filled n = omega arith

text_filled : (text : List ℕ) → length (text ++ replicate (padded (length text) - length text) 0) ≡ padded (length text)
text_filled text =
    length-append text (replicate (padded (length text) - length text) 0)
    ∙ ap (λ (k : ℕ). length text + k) (length-replicate (padded (length text) - length text) 0) ∙ filled (length text)

pub front_long : (text : List ℕ) → length (front_of text) + 4 ≡ total_of text
front_long text =
    let inner = text ++ replicate (padded (length text) - length text) 0 in
    let e : length (inner ++ (0 ∷ 0 ∷ 0 ∷ 0 ∷ [])) ≡ length inner + 4 = length-append inner (0 ∷ 0 ∷ 0 ∷ 0 ∷ []) in
    let f : length (front_of text) ≡ 28 + length (inner ++ (0 ∷ 0 ∷ 0 ∷ 0 ∷ [])) = omega arith in
    omega (arith, e, f, text_filled text)

pub whole_long : (text : List ℕ) → length (whole_of text) ≡ total_of text
whole_long text = length-append (front_of text) (to_le_bytes w32 (total_of text)) ∙ front_long text
