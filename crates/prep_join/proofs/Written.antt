-- What is written of blocks and of captures, one more at the end.
use Rattle.std.proofs.Common.{◌≡◌, ℕ, true, false, not, List, [], ◌∷◌, ◌++◌, map, filter, refl, sym, ap, ◌∙◌, append_assoc}
use Rattle.std.specs.List.{concat}
use Rattle.std.proofs.lemmas.List.{append-nil, map-append}
use Rattle.std.proofs.lemmas.List.Elements.{filter-append}
use Rattle.std.proofs.lemmas.List.Folds.{concat-append}
use Rattle.prep_blocks.specs.declared.block.Block.{Block}
use Rattle.prep_blocks.specs.Read.{bytes_of}
use Rattle.prep_blocks.proofs.Splitters.{bytes_of-one}
use Rattle.prep_join.specs.Rings.{is_head, is_kept, joined, written_of}
use Rattle.prep_join.proofs.Snoc.{filter_yes, filter_no}

pub written_yes : (done : List (List Block)) (blocks : List Block) (b : Block) → is_kept done b ≡ true → written_of done (blocks ++ b ∷ []) ≡ written_of done blocks ++ b.bytes
written_yes done blocks b e = ap bytes_of (filter_yes (is_kept done) blocks b e) ∙ bytes_of-one (filter (is_kept done) blocks) b

pub written_no : (done : List (List Block)) (blocks : List Block) (b : Block) → is_kept done b ≡ false → written_of done (blocks ++ b ∷ []) ≡ written_of done blocks
written_no done blocks b e = ap bytes_of (filter_no (is_kept done) blocks b e)

filter_all : (blocks : List Block) → filter (is_kept []) blocks ≡ blocks
filter_all [] = refl
filter_all (b ∷ others) = ap (λ (t : List Block). b ∷ t) (filter_all others)

abbrev rest_of : List Block → List ℕ
rest_of blocks = bytes_of (filter (λ (b : Block). not (is_head b)) blocks)

pub joined-one : (done : List (List Block)) (current : List Block) → joined (done ++ current ∷ []) ≡ joined done ++ written_of done current
joined-one [] current = append-nil (bytes_of current) ∙ ap bytes_of (sym (filter_all current))
joined-one (first ∷ others) current =
    ap (λ (t : List (List ℕ)). bytes_of first ++ concat t) (map-append rest_of others (current ∷ []))
    ∙ ap (λ (t : List ℕ). bytes_of first ++ t) (concat-append (map rest_of others) (rest_of current ∷ []) ∙ ap (λ (t : List ℕ). concat (map rest_of others) ++ t) (append-nil (rest_of current)))
    ∙ sym (append_assoc (bytes_of first) (concat (map rest_of others)) (rest_of current))

pub written_of-append : (done : List (List Block)) (a b : List Block) → written_of done (a ++ b) ≡ written_of done a ++ written_of done b
written_of-append done a b =
    let bytes = λ (x : Block). x.bytes in
    ap bytes_of (filter-append (is_kept done) a b) ∙ ap concat (map-append bytes (filter (is_kept done) a) (filter (is_kept done) b)) ∙ concat-append (map bytes (filter (is_kept done) a)) (map bytes (filter (is_kept done) b))
