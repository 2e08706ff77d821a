-- What stands where in a section with a comment.
use Rattle.std.proofs.Common.{◌≡◌, ◌≤◌, ◌-◌, ℕ, List, [], ◌∷◌, ◌++◌, length, take, drop, refl, sym, ap, ◌∙◌, arith}
use Rattle.std.specs.Int.{w16, w32, to_le_bytes, from_le_bytes}
use Rattle.std.proofs.lemmas.List.{take-append-le, take_all}
use Rattle.std.proofs.lemmas.Nat.{from_le_bytes-to_le_bytes_4}
use Rattle.audit_pcapng.specs.declared.byte_order.ByteOrder.TheVariants.{Little, Big}
use Rattle.audit_pcapng.specs.Numbers.{number_at}
use Rattle.prep_comment.specs.Sections.{total_of, whole_of}
use Rattle.prep_comment.proofs.Lengths.{front_of, front_long, whole_long}

pub kind_shown : (text : List ℕ) → number_at Big w32 0 (whole_of text) ≡ 0x0A0D0D0A
unfolding number_at
kind_shown text = refl

pub magic_shown : (text : List ℕ) → number_at Little w32 8 (whole_of text) ≡ 0x1A2B3C4D
unfolding number_at
magic_shown text = refl

pub version_shown : (text : List ℕ) → number_at Little w16 12 (front_of text) ≡ 1
unfolding number_at
version_shown text = refl

pub total_small : (text : List ℕ) → length text ≤ 4096 → total_of text ≤ 16777216
total_small text few = omega (arith, few)

pub first_shown : (text : List ℕ) → length text ≤ 4096 → number_at Little w32 4 (whole_of text) ≡ total_of text
unfolding number_at
first_shown text few = from_le_bytes-to_le_bytes_4 (total_of text) (omega (arith, total_small text few))

pub front_taken : (text : List ℕ) → take (length (whole_of text) - 4) (whole_of text) ≡ front_of text
front_taken text =
    let e : length (whole_of text) - 4 ≡ length (front_of text) = omega (arith, whole_long text, front_long text) in
    ap (λ (n : ℕ). take n (whole_of text)) e
    ∙ take-append-le (length (front_of text)) (front_of text) (to_le_bytes w32 (total_of text)) (omega arith)
    ∙ take_all (length (front_of text)) (front_of text) (omega arith)

behind : (xs ys : List ℕ) → drop (length xs) (xs ++ ys) ≡ ys
behind [] ys = refl
behind (x ∷ xs) ys = behind xs ys

second_at : (text : List ℕ) → drop (length (whole_of text) - 4) (whole_of text) ≡ to_le_bytes w32 (total_of text)
second_at text =
    let e : length (whole_of text) - 4 ≡ length (front_of text) = omega (arith, whole_long text, front_long text) in
    ap (λ (n : ℕ). drop n (whole_of text)) e ∙ behind (front_of text) (to_le_bytes w32 (total_of text))

pub second_shown : (text : List ℕ) → length text ≤ 4096 → number_at Little w32 (length (whole_of text) - 4) (whole_of text) ≡ length (whole_of text)
unfolding number_at
second_shown text few =
    ap (λ (rest : List ℕ). from_le_bytes w32 (take 4 rest)) (second_at text)
    ∙ from_le_bytes-to_le_bytes_4 (total_of text) (omega (arith, total_small text few)) ∙ sym (whole_long text)
