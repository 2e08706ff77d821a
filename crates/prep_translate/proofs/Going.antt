-- A translator's relation, step by step.
use Rattle.std.proofs.Common.{◌≡◌, ℕ, List, [], ◌∷◌, ◌++◌, map, None, Err, refl, sym, ap, subst, ◌∙◌, append_assoc}
use Rattle.std.specs.List.{concat}
use Rattle.std.proofs.lemmas.List.{append-nil, map-append}
use Rattle.std.proofs.lemmas.List.Elements.{All-push}
use Rattle.std.proofs.lemmas.List.Folds.{concat-append}
use Rattle.std.proofs.lemmas.Grind.{fold-append}
use Rattle.audit_pcapng.specs.declared.fault.CaptureFault.{CaptureFault}
use Rattle.audit_pcapng.specs.declared.fault.CaptureFault.TheVariants as blocks
use Rattle.audit_pcapng.specs.Captures.{FirstFault}
use Rattle.prep_blocks.specs.declared.block.Block.{Block}
use Rattle.prep_blocks.specs.Read.{bytes_of}
use Rattle.prep_blocks.specs.Splitting.{StandsFor, Gave, Ends, EndsBy}
use Rattle.prep_translate.specs.declared.renaming.Renaming.{Renaming}
use Rattle.prep_translate.specs.declared.translator.Translator.{Translator}
use Rattle.prep_translate.specs.declared.tally.Tally.{Tally}
use Rattle.prep_translate.specs.declared.fault.TranslateFault.{TranslateFault}
use Rattle.prep_translate.specs.declared.fault.TranslateFault.TheVariants as faults
use Rattle.prep_translate.specs.Renaming.{Refuses}
use Rattle.prep_translate.specs.Frames.{moved_in, written_of, fault_in}
use Rattle.prep_translate.specs.Tallied.{no_tally, tallied}
use Rattle.prep_translate.specs.Translating.{translated, tally_of, AreFit, IsTranslating, GoesOn, IsRefused, IsUndone}

pub undone : (text : List ℕ) (bs : List Block) (fault : CaptureFault) → Ends (Err fault) text bs → IsUndone (faults.Capture fault) text bs
undone text bs blocks.Torn e = e
undone text bs blocks.NoSection e = e
undone text bs other e = absurd e

pub translated-append : (renaming : Renaming) (a b : List Block) → translated renaming (a ++ b) ≡ translated renaming a ++ translated renaming b
translated-append renaming a b =
    ap concat (map-append (written_of renaming) a b) ∙ concat-append (map (written_of renaming) a) (map (written_of renaming) b)

translated-one : (renaming : Renaming) (a : List Block) (b : Block) → translated renaming (a ++ b ∷ []) ≡ translated renaming a ++ written_of renaming b
translated-one renaming a b = translated-append renaming a (b ∷ []) ∙ ap (λ (t : List ℕ). translated renaming a ++ t) (append-nil (written_of renaming b))

tally_of-one : (renaming : Renaming) (a : List Block) (b : Block) → tally_of renaming (a ++ b ∷ []) ≡ tallied (tally_of renaming a) (moved_in renaming b)
tally_of-one renaming a b = fold-append (λ (tally : Tally) (x : Block). tallied tally (moved_in renaming x)) no_tally a (b ∷ [])

pub nothing_yet : (renaming : Renaming) (translator : Translator) (text : List ℕ) (bs : List Block) (piece out : List ℕ) → IsTranslating renaming translator text bs → GoesOn renaming translator text bs piece piece out out
nothing_yet renaming translator text bs piece out t = record {
  taken = [];
  more = [];
  cut = refl;
  translating = rw (append-nil text, append-nil bs) t;
  added = sym (append-nil out);
}

-- one block more
pub step : (renaming : Renaming) (old new : Translator) (text : List ℕ) (bs : List Block) (piece rest behind before after after' : List ℕ) (b : Block)
    → (g : GoesOn renaming old text bs piece rest before after) → Gave new.splitter (text ++ g.taken) (bs ++ g.more) rest b behind → AreFit renaming ((bs ++ g.more) ++ b ∷ [])
    → new.tally ≡ tallied old.tally (moved_in renaming b) → after' ≡ after ++ written_of renaming b → GoesOn renaming new text bs piece behind before after'
step renaming old new text bs piece rest behind before after after' b g gave fit tally added =
    let text_so = append_assoc text g.taken gave.taken in
    let blocks_so = append_assoc bs g.more (b ∷ []) in
    record {
      taken = g.taken ++ gave.taken;
      more = g.more ++ b ∷ [];
      cut = g.cut ∙ ap (λ (t : List ℕ). g.taken ++ t) gave.cut ∙ sym (append_assoc g.taken gave.taken behind);
      translating = subst (λ (t : List ℕ). IsTranslating renaming new t (bs ++ (g.more ++ b ∷ []))) text_so
          (subst (λ (all : List Block). IsTranslating renaming new ((text ++ g.taken) ++ gave.taken) all) blocks_so
          (record { splits = gave.stands; fit = fit; tally = tally ∙ ap (λ (t : Tally). tallied t (moved_in renaming b)) g.translating.tally ∙ sym (tally_of-one renaming (bs ++ g.more) b) }));
      added = added ∙ ap (λ (t : List ℕ). t ++ written_of renaming b) g.added ∙ append_assoc before (translated renaming g.more) (written_of renaming b)
          ∙ ap (λ (t : List ℕ). before ++ t) (sym (translated-one renaming g.more b));
    }

-- the rest of the piece is no whole block
pub all_taken : (renaming : Renaming) (old new : Translator) (text : List ℕ) (bs : List Block) (piece rest before after : List ℕ) → (g : GoesOn renaming old text bs piece rest before after)
    → StandsFor new.splitter ((text ++ g.taken) ++ rest) (bs ++ g.more) → new.tally ≡ old.tally → GoesOn renaming new text bs piece [] before after
all_taken renaming old new text bs piece rest before after g stands tally = record {
  taken = g.taken ++ rest;
  more = g.more;
  cut = g.cut ∙ sym (append-nil (g.taken ++ rest));
  translating = subst (λ (t : List ℕ). IsTranslating renaming new t (bs ++ g.more)) (append_assoc text g.taken rest)
      (record { splits = stands; fit = g.translating.fit; tally = tally ∙ g.translating.tally });
  added = g.added;
}

pub fault_of_text : (renaming : Renaming) (old : Translator) (text : List ℕ) (bs : List Block) (piece rest before after : List ℕ) (fault : CaptureFault) → (g : GoesOn renaming old text bs piece rest before after)
    → EndsBy ((text ++ g.taken) ++ rest) (bs ++ g.more) fault → IsRefused renaming (faults.Capture fault) (text ++ piece) bs
fault_of_text renaming old text bs piece rest before after fault g ends =
    let whole : (text ++ g.taken) ++ rest ≡ text ++ piece = append_assoc text g.taken rest ∙ ap (λ (t : List ℕ). text ++ t) (sym g.cut) in
    λ named. let first = ends named in (first.0, subst (λ (t : List ℕ). FirstFault t first.0 fault) whole first.1)

pub fault_of_block : (renaming : Renaming) (old new : Translator) (text : List ℕ) (bs : List Block) (piece rest behind before after : List ℕ) (b : Block) (fault : TranslateFault) → (g : GoesOn renaming old text bs piece rest before after)
    → Gave new.splitter (text ++ g.taken) (bs ++ g.more) rest b behind → Refuses fault (fault_in renaming b) → IsRefused renaming fault (text ++ piece) bs
fault_of_block renaming old new text bs piece rest behind before after b fault g gave refused = by_fault fault refused where
  spelled_so : text ++ piece ≡ bytes_of ((bs ++ g.more) ++ b ∷ []) ++ (new.splitter.held.items ++ behind)
  spelled_so = ap (λ (t : List ℕ). text ++ t) (g.cut ∙ ap (λ (t : List ℕ). g.taken ++ t) gave.cut) ∙ sym (append_assoc text g.taken (gave.taken ++ behind)) ∙ sym (append_assoc (text ++ g.taken) gave.taken behind)
      ∙ ap (λ (t : List ℕ). t ++ behind) gave.stands.1.spelled ∙ append_assoc (bytes_of ((bs ++ g.more) ++ b ∷ [])) new.splitter.held.items behind

  by_fault : (f : TranslateFault) → Refuses f (fault_in renaming b) → IsRefused renaming f (text ++ piece) bs
  by_fault (faults.Capture f) is = λ named. absurd (named is)
  by_fault (faults.Datagram why) is = record { more = g.more; block = b; rest = new.splitter.held.items ++ behind; spelled = spelled_so; refused = is }

pub at_end : (renaming : Renaming) (translator : Translator) (text : List ℕ) (bs : List Block) (piece rest before after : List ℕ) → rest ≡ [] → GoesOn renaming translator text bs piece rest before after → GoesOn renaming translator text bs piece [] before after
at_end renaming translator text bs piece rest before after none g = subst (λ (r : List ℕ). GoesOn renaming translator text bs piece r before after) none g

pub all_fit : (renaming : Renaming) (bs : List Block) (b : Block) → AreFit renaming bs → fault_in renaming b ≡ None → AreFit renaming (bs ++ b ∷ [])
all_fit renaming bs b all one = All-push (λ (x : Block). fault_in renaming x ≡ None) bs b all one
