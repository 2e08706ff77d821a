-- The front of a name.
use Rattle.std.proofs.Common.{◌≡◌, ℕ, List, ◌++◌, true, false, not, length, take, drop, refl, sym, ap, ◌∙◌}
use Rattle.std.specs.Str.{bytes_eq}
use Rattle.std.specs.Cmp.Lexicographic.{bytes_decides, same_text}
use Rattle.std.proofs.Math.Seq.{take-append_seam}
use Rattle.std.proofs.lemmas.List.{take-append-drop}
use Rattle.std.proofs.lemmas.List.Prefix.{front_rest}

pub not_front : (name prefix tail : List ℕ) → bytes_eq (take (length prefix) name) prefix ≡ false → name ≡ prefix ++ tail → ⊥
not_front name prefix tail apart e =
    let front : take (length prefix) name ≡ prefix = ap (take (length prefix)) e ∙ take-append_seam prefix tail in
    let both : true ≡ false = sym ((bytes_decides (take (length prefix) name) prefix).1 front) ∙ apart in
    cc

pub front_gone : (name prefix rest tail : List ℕ) → rest ≡ drop (length prefix) name → name ≡ prefix ++ tail → rest ≡ tail
front_gone name prefix rest tail is e = is ∙ front_rest name prefix tail e

pub has_front : (name prefix rest : List ℕ) → bytes_eq (take (length prefix) name) prefix ≡ true → rest ≡ drop (length prefix) name → name ≡ prefix ++ rest
has_front name prefix rest same is =
    sym (take-append-drop (length prefix) name) ∙ ap (λ (l : List ℕ). l ++ drop (length prefix) name) (same_text (take (length prefix) name) prefix (sym same)) ∙ ap (λ (l : List ℕ). prefix ++ l) (sym is)

pub same_bytes : (a b : List ℕ) → not (bytes_eq a b) ≡ false → a ≡ b
same_bytes a b e = elim (bytes_eq a b) as (λ t. bytes_eq a b ≡ t → not t ≡ false → a ≡ b) [
  | true ↦ λ same _. same_text a b (sym same)
  | false ↦ λ same bad. absurd (let both : true ≡ false = bad in cc)
] refl e

pub differ : (a b : List ℕ) → not (bytes_eq a b) ≡ true → a ≡ b → ⊥
differ a b apart e =
    let same : bytes_eq a b ≡ true = (bytes_decides a b).1 e in
    let both : false ≡ true = ap not (sym same) ∙ apart in
    cc
