-- What is kept of datagrams, a block more.
use Rattle.std.proofs.Common.{◌≡◌, ◌≢◌, ℕ, ◌+◌, ◌<◌, Bool, true, false, cond, List, [], ◌∷◌, ◌++◌, length, Option, Some, None, refl, sym, ap, subst, ◌∙◌, length-append}
use Rattle.std.proofs.lemmas.List.{append-nil}
use Rattle.std.proofs.lemmas.Grind.{fold-append, flat_map-append}
use Rattle.prep_blocks.specs.declared.block.Block.{Block}
use Rattle.prep_fragments.specs.declared.begun.Begun.{Begun}
use Rattle.prep_fragments.specs.declared.opens.Opens.{Opens}
use Rattle.prep_fragments.specs.declared.fragment.Key.{Key}
use Rattle.prep_fragments.specs.declared.fragment.Fragment.{Fragment}
use Rattle.prep_fragments.specs.Parts.{part_of, frame_of, data_of, is_same}
use Rattle.prep_fragments.specs.Wholes.{datas_of, whole_of}
use Rattle.prep_fragments.specs.Opens.{open_at, stamp_of, opened, extended, Fits, IsBegun}
use Rattle.prep_fragments.specs.Reassembling.{pended, pended_by, pending, out_by, out_of, FitsPart, FitsBlock, IsHeld, Holds}
use Rattle.prep_fragments.proofs.Keys.{exact}

pending-one : (key : Key) (blocks : List Block) (b : Block) → pending key (blocks ++ b ∷ []) ≡ pended key (pending key blocks) b
pending-one key blocks b = fold-append (pended key) [] blocks (b ∷ [])

-- a block that is no fragment
pub holds_other : (opens : Opens) (blocks : List Block) (b : Block) → part_of b ≡ None → Holds opens blocks → Holds opens (blocks ++ b ∷ [])
holds_other opens blocks b is holds = λ key.
    let same : pending key (blocks ++ b ∷ []) ≡ pending key blocks = pending-one key blocks b ∙ ap (pended_by key (pending key blocks) b) is in
    subst (IsHeld (open_at opens key)) (sym same) (holds key)

abbrev after_part : Bool → List Block → Block → List Block
after_part has_more held b = cond has_more (held ++ b ∷ []) []

-- a fragment
pub holds_part : (old new : Opens) (blocks : List Block) (b : Block) (part : Fragment) (now : Option Begun) → Holds old blocks → part_of b ≡ Some part
    → ((other : Key) → open_at new other ≡ cond (is_same part.key other) now (open_at old other)) → IsHeld now (after_part part.has_more (pending part.key blocks) b) → Holds new (blocks ++ b ∷ [])
holds_part old new blocks b part now holds is put held = λ key.
    let by_part : pending key (blocks ++ b ∷ []) ≡ cond (is_same part.key key) (after_part part.has_more (pending key blocks) b) (pending key blocks) = pending-one key blocks b ∙ ap (pended_by key (pending key blocks) b) is in
    by_test key by_part (is_same part.key key) refl where
      by_test : (key : Key) → pending key (blocks ++ b ∷ []) ≡ cond (is_same part.key key) (after_part part.has_more (pending key blocks) b) (pending key blocks)
          → (t : Bool) → is_same part.key key ≡ t → IsHeld (open_at new key) (pending key (blocks ++ b ∷ []))
      by_test key by_part true e =
          let equal : part.key ≡ key = exact part.key key e in
          let shown : open_at new key ≡ now = put key ∙ ap (λ (t : Bool). cond t now (open_at old key)) e in
          let left : pending key (blocks ++ b ∷ []) ≡ after_part part.has_more (pending part.key blocks) b =
          by_part ∙ ap (λ (t : Bool). cond t (after_part part.has_more (pending key blocks) b) (pending key blocks)) e ∙ ap (λ (k : Key). after_part part.has_more (pending k blocks) b) (sym equal) in
          subst (λ (o : Option Begun). IsHeld o (pending key (blocks ++ b ∷ []))) (sym shown) (subst (IsHeld now) (sym left) held)
      by_test key by_part false e =
          let shown : open_at new key ≡ open_at old key = put key ∙ ap (λ (t : Bool). cond t now (open_at old key)) e in
          let left : pending key (blocks ++ b ∷ []) ≡ pending key blocks = by_part ∙ ap (λ (t : Bool). cond t (after_part part.has_more (pending key blocks) b) (pending key blocks)) e in
          subst (λ (o : Option Begun). IsHeld o (pending key (blocks ++ b ∷ []))) (sym shown) (subst (IsHeld (open_at old key)) (sym left) (holds key))

-- twice the same key
pub put_twice : (old middle new : Opens) (part : Fragment) (now : Option Begun) → ((other : Key) → open_at middle other ≡ cond (is_same part.key other) None (open_at old other))
    → ((other : Key) → open_at new other ≡ cond (is_same part.key other) now (open_at middle other)) → (other : Key) → open_at new other ≡ cond (is_same part.key other) now (open_at old other)
put_twice old middle new part now out put other = put other ∙ ap (cond (is_same part.key other) now) (out other) ∙ by_test (is_same part.key other) where
  by_test : (t : Bool) → cond t now (cond t None (open_at old other)) ≡ cond t now (open_at old other)
  by_test true = refl
  by_test false = refl

datas-one : (held : List Block) (b : Block) → datas_of (held ++ b ∷ []) ≡ datas_of held ++ data_of b
datas-one held b = flat_map-append data_of held (b ∷ []) ∙ ap (λ (t : List ℕ). datas_of held ++ t) (append-nil (data_of b))

-- the first fragment is held
pub held_first : (b : Block) (has_more : Bool) (before : List Block) → has_more ≡ true → before ≡ [] → IsHeld (Some (opened b)) (after_part has_more before b)
held_first b has_more before more none =
    let left : after_part has_more before b ≡ b ∷ [] = ap (λ (t : Bool). after_part t before b) more ∙ ap (λ (t : List Block). t ++ b ∷ []) none in
    subst (IsHeld (Some (opened b))) (sym left)
    (record { first = b; others = []; some = refl; stamp = refl; length_is = ap length (sym (append-nil (data_of b))) }, refl)

-- and one more
pub held_next : (begun : Begun) (b : Block) (has_more : Bool) (before : List Block) → has_more ≡ true → IsHeld (Some begun) before → IsHeld (Some (extended begun b)) (after_part has_more before b)
held_next begun b has_more before more held =
    let left : after_part has_more before b ≡ begun.fragments ++ b ∷ [] = ap (λ (t : Bool). after_part t before b) more ∙ ap (λ (t : List Block). t ++ b ∷ []) (sym held.1) in
    let is = held.0 in
    subst (IsHeld (Some (extended begun b))) (sym left) (
      record {
        first = is.first;
        others = is.others ++ b ∷ [];
        some = ap (λ (t : List Block). t ++ b ∷ []) is.some;
        stamp = is.stamp;
        length_is = ap (λ (n : ℕ). n + length (data_of b)) is.length_is ∙ sym (length-append (datas_of begun.fragments) (data_of b)) ∙ ap length (sym (datas-one begun.fragments b));
      },
      refl,
    )

-- the last one ends the datagram
pub held_none : (b : Block) (has_more : Bool) (before : List Block) → has_more ≡ false → IsHeld None (after_part has_more before b)
held_none b has_more before last = ap (λ (t : Bool). after_part t before b) last

abbrev some_or : Option Fragment → Fragment → Fragment
some_or None other = other
some_or (Some part) other = part

same_part : (b : Block) (part p : Fragment) → part_of b ≡ Some part → part_of b ≡ Some p → part ≡ p
same_part b part p is e = ap (λ (o : Option Fragment). some_or o part) (sym is ∙ e)

abbrev head_or : List Block → Block → Block
head_or [] other = other
head_or (first ∷ others) other = first

none_some : (blocks : List Block) (first : Block) (others : List Block) → blocks ≡ [] → blocks ≡ first ∷ others → ⊥
none_some blocks first others none some = absurd cc

-- a fragment fits
pub fits_none : (blocks : List Block) (b : Block) → part_of b ≡ None → FitsBlock blocks b
fits_none blocks b is = λ part e. absurd cc

pub fits_first : (blocks : List Block) (b : Block) (part : Fragment) → part_of b ≡ Some part → IsHeld None (pending part.key blocks) → part.has_more ≡ true → Fits b part 0 None → FitsBlock blocks b
fits_first blocks b part is none more fits = λ p e. subst (FitsPart blocks b) (same_part b part p is e) (record {
  some = fits.some;
  captured = fits.captured;
  follows = fits.follows ∙ ap (λ (t : List Block). length (datas_of t)) (sym none);
  timely = λ first others some. absurd (none_some (pending part.key blocks) first others none some);
  more = λ last. absurd (true_false part.has_more more last);
}) where
  true_false : (t : Bool) → t ≡ true → t ≡ false → ⊥
  true_false t e f = absurd cc

pub fits_next : (blocks : List Block) (b : Block) (part : Fragment) (begun : Begun) → part_of b ≡ Some part → IsHeld (Some begun) (pending part.key blocks) → Fits b part begun.length (Some begun.stamp) → FitsBlock blocks b
fits_next blocks b part begun is held fits = λ p e. subst (FitsPart blocks b) (same_part b part p is e) (record {
  some = fits.some;
  captured = fits.captured;
  follows = fits.follows ∙ held.0.length_is ∙ ap (λ (t : List Block). length (datas_of t)) held.1;
  timely = λ first others some.
      let same : held.0.first ≡ first = ap (λ (t : List Block). head_or t first) (sym held.0.some ∙ held.1 ∙ some) in
      subst (λ (s : ℕ). stamp_of b < s + 30000000000) (held.0.stamp ∙ ap stamp_of same) fits.timely;
  more = λ last none. none_some begun.fragments held.0.first held.0.others (held.1 ∙ none) held.0.some;
})

-- what is written
pub out_none : (blocks : List Block) (b : Block) → part_of b ≡ None → out_of blocks b ≡ b.bytes
out_none blocks b is = ap (out_by blocks b) is

pub out_more : (blocks : List Block) (b : Block) (part : Fragment) → part_of b ≡ Some part → part.has_more ≡ true → out_of blocks b ≡ []
out_more blocks b part is more = ap (out_by blocks b) is ∙ ap (λ (t : Bool). cond t [] (whole_of (pending part.key blocks) b)) more

pub out_last : (blocks : List Block) (b : Block) (part : Fragment) (begun : Begun) → part_of b ≡ Some part → part.has_more ≡ false → IsHeld (Some begun) (pending part.key blocks) → out_of blocks b ≡ whole_of begun.fragments b
out_last blocks b part begun is last held = ap (out_by blocks b) is ∙ ap (λ (t : Bool). cond t [] (whole_of (pending part.key blocks) b)) last ∙ ap (λ (t : List Block). whole_of t b) (sym held.1)
