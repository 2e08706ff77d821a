-- The options of a section with a comment.
use Rattle.std.proofs.Common.{◌≡◌, ◌≤◌, ◌+◌, ◌-◌, ℕ, List, [], ◌∷◌, ◌++◌, length, take, drop, replicate, refl, ap, ◌∙◌, arith}
use Rattle.std.specs.Int.{w16, to_le_bytes}
use Rattle.std.proofs.lemmas.List.{length-replicate}
use Rattle.std.proofs.lemmas.Nat.{from_le_bytes-to_le_bytes_2}
use Rattle.audit_pcapng.specs.declared.byte_order.ByteOrder.TheVariants.{Little}
use Rattle.audit_pcapng.specs.Numbers.{number_at, padded}
use Rattle.audit_pcapng.specs.OptionLists.{AreOptions, IsOption, IsEnd}
use Rattle.prep_comment.specs.Sections.{body_of, option_of}
use Rattle.prep_comment.proofs.Lengths.{filled}
use Rattle.prep_comment.proofs.Reading.{taken_few}

abbrev end_bytes : List ℕ
end_bytes = 0 ∷ 0 ∷ 0 ∷ 0 ∷ []

size_shown : (text : List ℕ) → length text ≤ 4096 → number_at Little w16 2 ((1 ∷ 0 ∷ []) ++ to_le_bytes w16 (length text)) ≡ length text
unfolding number_at
size_shown text few = from_le_bytes-to_le_bytes_2 (length text) (omega (arith, few))

code_shown : (text : List ℕ) → number_at Little w16 0 ((1 ∷ 0 ∷ []) ++ to_le_bytes w16 (length text)) ≡ 1
unfolding number_at
code_shown text = refl

is_option : (text : List ℕ) → length text ≤ 4096 → IsOption Little (option_of text) (1, text)
is_option text few = record {
  head = (1 ∷ 0 ∷ []) ++ to_le_bytes w16 (length text);
  padding = replicate (padded (length text) - length text) 0;
  spelled = refl;
  four = refl;
  code = code_shown text;
  size = size_shown text few;
  pads = ap (λ (n : ℕ). length text + n) (length-replicate (padded (length text) - length text) 0) ∙ filled (length text);
  some = λ e. absurd (omega (arith, e));
}

is_end : IsEnd Little end_bytes
unfolding number_at
is_end = (omega arith, refl)

pub commented : (comment : List ℕ) → AreOptions Little (drop 16 (body_of (take 4096 comment))) ((1, take 4096 comment) ∷ [])
commented comment = (option_of (take 4096 comment), end_bytes, refl, is_option (take 4096 comment) (taken_few comment), is_end)
