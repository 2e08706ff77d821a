-- Pieces of a file, and lists that go side by side.
use Rattle.std.proofs.Common.{◌≡◌, ◌≤◌, ◌<◌, ◌+◌, ◌++◌, ◌∙◌, ℕ, zero, suc, List, [], ◌∷◌, take, drop, length, get_or, ap, sym, arith}
use Rattle.std.specs.List.{AllZip}
use Rattle.std.proofs.lemmas.List.{take-append-drop, take-take, drop-take, take-append-le}
use Rattle.prep_program.specs.Pieces.{IsPieceAt}

-- the bytes up to an offset, and a piece behind them
pub fed_more : (bytes into : List ℕ) (at count : ℕ) → take count into ≡ take count (drop at bytes) → take at bytes ++ take count into ≡ take (at + count) bytes
fed_more bytes into at count same =
    let more = take (at + count) bytes in
    ap (λ (l : List ℕ). take at bytes ++ l) (same ∙ sym (drop-take at count bytes))
    ∙ ap (λ (l : List ℕ). l ++ drop at more) (sym (take-take at (at + count) bytes (omega arith)))
    ∙ take-append-drop at more

-- a piece of a buffer that was filled from its front
pub read_of : (into rest : List ℕ) (len count : ℕ) → count ≤ len → count ≤ length into → take count (take len (into ++ rest)) ≡ take count into
read_of into rest len count short within = take-take count len (into ++ rest) short ∙ take-append-le count into rest within

-- the piece is there, too, in a vector that has the buffer at its front
pub moved_piece : (bytes into rest : List ℕ) (at count len : ℕ) → count ≤ len → count ≤ length into → 0 < length into → IsPieceAt bytes at count into → IsPieceAt bytes at count (take len (into ++ rest))
moved_piece bytes into rest at count len short within some piece = record {
  same = read_of into rest len count short within ∙ piece.same;
  last = λ none full. piece.last none some;
}

-- what holds of two lists place by place holds at a place
pub zip_at : {A B : Type 0} (R : A → B → Type 0) (xs : List A) (ys : List B) (i : ℕ) (d : A) (e : B) → AllZip R xs ys → i < length xs → (i < length ys) × R (get_or xs i d) (get_or ys i e)
zip_at R [] ys i d e all within = absurd (omega (arith, within))
zip_at R (x ∷ xs) [] i d e all within = absurd all
zip_at R (x ∷ xs) (y ∷ ys) zero d e all within = (omega arith, all.0)
zip_at R (x ∷ xs) (y ∷ ys) (suc i) d e all within =
    let rest = zip_at R xs ys i d e all.1 (omega (arith, within)) in (omega (arith, rest.0), rest.1)

pub zip_len : {A B : Type 0} (R : A → B → Type 0) (xs : List A) (ys : List B) → AllZip R xs ys → length xs ≡ length ys
zip_len R [] [] all = λ i. 0
zip_len R [] (y ∷ ys) all = absurd all
zip_len R (x ∷ xs) [] all = absurd all
zip_len R (x ∷ xs) (y ∷ ys) all = ap suc (zip_len R xs ys all.1)
