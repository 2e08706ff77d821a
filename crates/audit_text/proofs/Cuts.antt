-- A list cut at a separator.
use Rattle.std.proofs.Common.{◌≡◌, ℕ, ◌+◌, ◌<◌, Bool, cond, List, [], ◌∷◌, ◌++◌, length, take, drop, get_or, Option, Some, None, option_map, refl, sym, ap, ◌∙◌, append_assoc, append-nil, eq-eqb}
use Rattle.std.proofs.lemmas.List.{take_more, drop_more}
use Rattle.std.proofs.lemmas.Bool.{ne_eqb}
use Rattle.audit_text.specs.Token.{cut_of}

-- what a cut gives, with a front before its first part
abbrev pub with_front : List ℕ → Option (List ℕ × List ℕ) → Option (List ℕ × List ℕ)
with_front front found = option_map (λ p. (front ++ p.0, p.1)) found

one_more : (front : List ℕ) (x : ℕ) (found : Option (List ℕ × List ℕ)) →
    with_front front (option_map (λ p. (x ∷ p.0, p.1)) found) ≡ with_front (front ++ x ∷ []) found
one_more front x None = refl
one_more front x (Some p) = rw append_assoc refl

-- a byte that is no separator joins the front
pub cut_more : (separator : ℕ) (bytes : List ℕ) (i : ℕ) → i < length bytes → (get_or bytes i 0 ≡ separator → ⊥) →
    with_front (take i bytes) (cut_of separator (drop i bytes)) ≡ with_front (take (i + 1) bytes) (cut_of separator (drop (i + 1) bytes))
cut_more separator bytes i lt ne =
    let x : ℕ = get_or bytes i 0 in
    let rest : List ℕ = drop (i + 1) bytes in
    ap (λ (l : List ℕ). with_front (take i bytes) (cut_of separator l)) (drop_more bytes i 0 lt)
    ∙ ap (λ (b : Bool). with_front (take i bytes) (cond b (Some ([], rest)) (option_map (λ p. (x ∷ p.0, p.1)) (cut_of separator rest)))) (ne_eqb x separator ne)
    ∙ one_more (take i bytes) x (cut_of separator rest)
    ∙ ap (λ (l : List ℕ). with_front l (cut_of separator rest)) (sym (take_more bytes i 0 lt))

-- the separator cuts
pub cut_here : (separator : ℕ) (bytes : List ℕ) (i : ℕ) → i < length bytes → get_or bytes i 0 ≡ separator →
    with_front (take i bytes) (cut_of separator (drop i bytes)) ≡ Some (take i bytes, drop (i + 1) bytes)
cut_here separator bytes i lt eq =
    let x : ℕ = get_or bytes i 0 in
    let rest : List ℕ = drop (i + 1) bytes in
    ap (λ (l : List ℕ). with_front (take i bytes) (cut_of separator l)) (drop_more bytes i 0 lt)
    ∙ ap (λ (b : Bool). with_front (take i bytes) (cond b (Some ([], rest)) (option_map (λ p. (x ∷ p.0, p.1)) (cut_of separator rest)))) (eq-eqb x separator eq)
    ∙ ap (λ (l : List ℕ). Some (l, rest)) (append-nil (take i bytes))
