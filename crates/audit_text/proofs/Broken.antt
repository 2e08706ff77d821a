-- Texts cut at their LFs, and bytes without an LF.
use Rattle.std.proofs.Common.{◌≡◌, ℕ, Bool, true, false, cond, eqb, ◌||◌, List, [], ◌∷◌, ◌++◌, Option, Some, None, option_map, refl, sym, ap, ◌∙◌}
use Rattle.audit_text.specs.Lines.{Pieces, pieces, has_lf}
use Rattle.audit_text.specs.Token.{cut_of}

-- bytes in front of the first piece
abbrev pub in_front : List ℕ → Pieces → Pieces
in_front bytes p = record { first = bytes ++ p.first; more = p.more }

-- a line in front of what follows it
abbrev pub with_line : List ℕ → Pieces → Pieces
with_line line p = record { first = line; more = p.first ∷ p.more }

abbrev pub cons_first : ℕ → Pieces → Pieces
cons_first b p = record { first = b ∷ p.first; more = p.more }

-- bytes without an LF join the first piece
pub pieces-unbroken : (a b : List ℕ) → has_lf a ≡ false → pieces (a ++ b) ≡ in_front a (pieces b)
pieces-unbroken [] b h = refl
pieces-unbroken (x ∷ a) b h =
    elim (eqb x 10) as (λ t. (t || has_lf a) ≡ false → cond {A = Pieces} t (with_line [] (pieces (a ++ b))) (cons_first x (pieces (a ++ b))) ≡ in_front (x ∷ a) (pieces b)) [
      | true ↦ λ e. absurd (cc)
      | false ↦ λ e. ap (cons_first x) (pieces-unbroken a b e)
    ] h

-- neither of two texts has an LF
pub unbroken-append : (a b : List ℕ) → has_lf a ≡ false → has_lf b ≡ false → has_lf (a ++ b) ≡ false
unbroken-append [] b h k = k
unbroken-append (x ∷ a) b h k =
    elim (eqb x 10) as (λ t. (t || has_lf a) ≡ false → (t || has_lf (a ++ b)) ≡ false) [
      | true ↦ λ e. absurd (cc)
      | false ↦ λ e. unbroken-append a b e k
    ] h

-- one byte more before the cut
abbrev longer_cut : ℕ → Option (List ℕ × List ℕ) → Option (List ℕ × List ℕ)
longer_cut b found = option_map (λ p. (b ∷ p.0, p.1)) found

abbrev of_pair : Option (List ℕ × List ℕ) → List ℕ × List ℕ
of_pair (Some p) = p
of_pair None = ([], [])

-- what a cut says of a text: a line without an LF, an LF and the rest
pub record IsCut (text line rest : List ℕ) : Type 0 where
  pub pieces-is : pieces text ≡ with_line line (pieces rest)
  pub unbroken : has_lf line ≡ false

cut_now : (bs line rest : List ℕ) → [] ≡ line → bs ≡ rest → IsCut (10 ∷ bs) line rest
cut_now bs line rest of_line of_rest = record {
  pieces-is = ap (λ (l : List ℕ). with_line l (pieces bs)) of_line ∙ ap (λ (l : List ℕ). with_line line (pieces l)) of_rest;
  unbroken = ap has_lf (sym of_line);
}

-- the pieces of a text whose first byte is an LF, or isn't
abbrev pieces_by : Bool → ℕ → Pieces → Pieces
pieces_by t b p = cond {A = Pieces} t (with_line [] p) (cons_first b p)

-- what a cut says of a byte and a text, where the byte is an LF or not
abbrev CutBy : Bool → ℕ → List ℕ → List ℕ → List ℕ → Type 0
CutBy t b bs line rest = (pieces_by t b (pieces bs) ≡ with_line line (pieces rest)) × (has_lf line ≡ false)

abbrev cut_by : Bool → ℕ → List ℕ → Option (List ℕ × List ℕ)
cut_by t b bs = cond t (Some ([], bs)) (longer_cut b (cut_of 10 bs))

first_of : (p : List ℕ × List ℕ) (line rest : List ℕ) → Some p ≡ Some (line, rest) → (p.0 ≡ line) × (p.1 ≡ rest)
first_of p line rest e = let same : p ≡ (line, rest) = ap of_pair e in (ap (λ (q : List ℕ × List ℕ). q.0) same, ap (λ (q : List ℕ × List ℕ). q.1) same)

at_lf : (b : ℕ) (bs line rest : List ℕ) → cut_by true b bs ≡ Some (line, rest) → CutBy true b bs line rest
at_lf b bs line rest e =
    let is = first_of ([], bs) line rest e in
    (ap (λ (l : List ℕ). with_line l (pieces bs)) is.0 ∙ ap (λ (l : List ℕ). with_line line (pieces l)) is.1, ap has_lf (sym is.0))

beyond : (b : ℕ) (bs line rest : List ℕ) (found : Option (List ℕ × List ℕ)) → eqb b 10 ≡ false → ((l r : List ℕ) → found ≡ Some (l, r) → IsCut bs l r) →
    longer_cut b found ≡ Some (line, rest) → CutBy false b bs line rest
beyond b bs line rest None other below e = absurd (let bad : None ≡ Some (line, rest) = e in cc)
beyond b bs line rest (Some p) other below e =
    let is = first_of (b ∷ p.0, p.1) line rest e in
    let cut = below p.0 p.1 refl in (
      ap (cons_first b) cut.pieces-is ∙ ap (λ (l : List ℕ). with_line l (pieces p.1)) is.0 ∙ ap (λ (l : List ℕ). with_line line (pieces l)) is.1,
      ap has_lf (sym is.0) ∙ ap (λ t. t || has_lf p.0) other ∙ cut.unbroken,
    )

-- the first line of a text
pub cut_is : (text line rest : List ℕ) → cut_of 10 text ≡ Some (line, rest) → IsCut text line rest
cut_is [] line rest e = absurd (let bad : None ≡ Some (line, rest) = e in cc)
cut_is (b ∷ bs) line rest e =
    let both = elim (eqb b 10) as (λ t. eqb b 10 ≡ t → cut_by t b bs ≡ Some (line, rest) → CutBy t b bs line rest) [
      | true ↦ λ q. at_lf b bs line rest
      | false ↦ λ q. beyond b bs line rest (cut_of 10 bs) q (cut_is bs)
    ] refl e in
    record { pieces-is = both.0; unbroken = both.1 }

longer_none : (b : ℕ) (found : Option (List ℕ × List ℕ)) → longer_cut b found ≡ None → found ≡ None
longer_none b None e = refl
longer_none b (Some p) e = absurd (cc)

-- a text that isn't cut has no LF
pub uncut_unbroken : (text : List ℕ) → cut_of 10 text ≡ None → has_lf text ≡ false
uncut_unbroken [] e = refl
uncut_unbroken (b ∷ bs) e =
    elim (eqb b 10) as (λ t. cut_by t b bs ≡ None → (t || has_lf bs) ≡ false) [
      | true ↦ λ q. absurd (cc)
      | false ↦ λ q. uncut_unbroken bs (longer_none b (cut_of 10 bs) q)
    ] e

uncut_by : (b : ℕ) (bs : List ℕ) → (cut_of 10 bs ≡ None → pieces bs ≡ record { first = bs; more = [] }) → (t : Bool) → cut_by t b bs ≡ None →
    pieces_by t b (pieces bs) ≡ record { first = b ∷ bs; more = [] }
uncut_by b bs below true e = absurd (cc)
uncut_by b bs below false e = ap (cons_first b) (below (longer_none b (cut_of 10 bs) e))

-- a text that isn't cut is one piece
pub pieces-uncut : (text : List ℕ) → cut_of 10 text ≡ None → pieces text ≡ record { first = text; more = [] }
pieces-uncut [] e = refl
pieces-uncut (b ∷ bs) e = uncut_by b bs (pieces-uncut bs) (eqb b 10) e
