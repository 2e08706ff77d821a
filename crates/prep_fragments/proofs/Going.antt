-- A reassembler's relation, step by step.
use Rattle.std.proofs.Common.{◌≡◌, ℕ, List, [], ◌∷◌, ◌++◌, refl, sym, ap, subst, ◌∙◌, append_assoc}
use Rattle.std.proofs.lemmas.List.{append-nil}
use Rattle.prep_blocks.specs.declared.block.Block.{Block}
use Rattle.prep_blocks.specs.Splitting.{StandsFor, Gave}
use Rattle.prep_fragments.specs.declared.reassembler.Reassembler.{Reassembler}
use Rattle.prep_fragments.specs.Reassembling.{out_of, reassembled, FitsBlock, AreFit, Holds, IsReassembling, GoesOn}

pub reassembled-append : (earlier a b : List Block) → reassembled earlier (a ++ b) ≡ reassembled earlier a ++ reassembled (earlier ++ a) b
reassembled-append earlier [] b = ap (λ (t : List Block). reassembled t b) (sym (append-nil earlier))
reassembled-append earlier (x ∷ a) b =
    ap (λ (t : List ℕ). out_of earlier x ++ t) (reassembled-append (earlier ++ x ∷ []) a b) ∙ sym (append_assoc (out_of earlier x) (reassembled (earlier ++ x ∷ []) a) (reassembled ((earlier ++ x ∷ []) ++ a) b))
    ∙ ap (λ (t : List Block). (out_of earlier x ++ reassembled (earlier ++ x ∷ []) a) ++ reassembled t b) (append_assoc earlier (x ∷ []) a)

reassembled-one : (earlier a : List Block) (b : Block) → reassembled earlier (a ++ b ∷ []) ≡ reassembled earlier a ++ out_of (earlier ++ a) b
reassembled-one earlier a b = reassembled-append earlier a (b ∷ []) ∙ ap (λ (t : List ℕ). reassembled earlier a ++ t) (append-nil (out_of (earlier ++ a) b))

fit-one : (earlier a : List Block) (b : Block) → AreFit earlier a → FitsBlock (earlier ++ a) b → AreFit earlier (a ++ b ∷ [])
fit-one earlier [] b all fits = (subst (λ (t : List Block). FitsBlock t b) (append-nil earlier) fits, tt)
fit-one earlier (x ∷ a) b all fits = (all.0, fit-one (earlier ++ x ∷ []) a b all.1 (subst (λ (t : List Block). FitsBlock t b) (sym (append_assoc earlier (x ∷ []) a)) fits))

pub nothing_yet : (r : Reassembler) (text : List ℕ) (bs : List Block) (piece out : List ℕ) → IsReassembling r text bs → GoesOn r text bs piece piece out out
nothing_yet r text bs piece out t = record {
  taken = [];
  more = [];
  cut = refl;
  reassembling = rw (append-nil text, append-nil bs) t;
  added = sym (append-nil out);
}

-- one block more
pub step : (old new : Reassembler) (text : List ℕ) (bs : List Block) (piece rest behind before after after' : List ℕ) (b : Block)
    → (g : GoesOn old text bs piece rest before after) → Gave new.splitter (text ++ g.taken) (bs ++ g.more) rest b behind → Holds new.opens ((bs ++ g.more) ++ b ∷ []) → FitsBlock (bs ++ g.more) b
    → after' ≡ after ++ out_of (bs ++ g.more) b → GoesOn new text bs piece behind before after'
step old new text bs piece rest behind before after after' b g gave holds fits added =
    let text_so = append_assoc text g.taken gave.taken in
    let blocks_so = append_assoc bs g.more (b ∷ []) in
    record {
      taken = g.taken ++ gave.taken;
      more = g.more ++ b ∷ [];
      cut = g.cut ∙ ap (λ (t : List ℕ). g.taken ++ t) gave.cut ∙ sym (append_assoc g.taken gave.taken behind);
      reassembling = subst (λ (t : List ℕ). IsReassembling new t (bs ++ (g.more ++ b ∷ []))) text_so
          (subst (λ (all : List Block). IsReassembling new ((text ++ g.taken) ++ gave.taken) all) blocks_so
          (record { splits = gave.stands; holds = holds; fit = fit-one [] (bs ++ g.more) b g.reassembling.fit fits }));
      added = added ∙ ap (λ (t : List ℕ). t ++ out_of (bs ++ g.more) b) g.added ∙ append_assoc before (reassembled bs g.more) (out_of (bs ++ g.more) b)
          ∙ ap (λ (t : List ℕ). before ++ t) (sym (reassembled-one bs g.more b));
    }

-- the rest of the piece is no whole block
pub all_taken : (old new : Reassembler) (text : List ℕ) (bs : List Block) (piece rest before after : List ℕ) → (g : GoesOn old text bs piece rest before after)
    → StandsFor new.splitter ((text ++ g.taken) ++ rest) (bs ++ g.more) → new.opens ≡ old.opens → GoesOn new text bs piece [] before after
all_taken old new text bs piece rest before after g stands opens = record {
  taken = g.taken ++ rest;
  more = g.more;
  cut = g.cut ∙ sym (append-nil (g.taken ++ rest));
  reassembling = subst (λ (t : List ℕ). IsReassembling new t (bs ++ g.more)) (append_assoc text g.taken rest)
      (record { splits = stands; holds = rw opens g.reassembling.holds; fit = g.reassembling.fit });
  added = g.added;
}

pub at_end : (r : Reassembler) (text : List ℕ) (bs : List Block) (piece rest before after : List ℕ) → rest ≡ [] → GoesOn r text bs piece rest before after → GoesOn r text bs piece [] before after
at_end r text bs piece rest before after none g = subst (λ (t : List ℕ). GoesOn r text bs piece t before after) none g
