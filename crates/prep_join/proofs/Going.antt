-- A joiner's relation, step by step.
use Rattle.std.proofs.Common.{◌≡◌, ℕ, true, false, List, [], ◌∷◌, ◌++◌, Err, refl, sym, ap, subst, ◌∙◌, append_assoc, inl, inr}
use Rattle.std.proofs.lemmas.List.{append-nil}
use Rattle.std.proofs.lemmas.Grind.{fold-append}
use Rattle.audit_pcapng.specs.declared.fault.CaptureFault.{CaptureFault}
use Rattle.audit_pcapng.specs.declared.fault.CaptureFault.TheVariants as blocks
use Rattle.audit_pcapng.specs.Captures.{FirstFault}
use Rattle.prep_blocks.specs.declared.block.Block.{Block}
use Rattle.prep_blocks.specs.Read.{bytes_of}
use Rattle.prep_blocks.specs.Splitting.{StandsFor, Gave, Ends, EndsBy}
use Rattle.prep_join.specs.declared.joiner.Joiner.{Joiner}
use Rattle.prep_join.specs.declared.counts.Counts.{Counts}
use Rattle.prep_join.specs.declared.fault.JoinFault.{JoinFault}
use Rattle.prep_join.specs.declared.fault.JoinFault.TheVariants as faults
use Rattle.prep_join.specs.Rings.{is_kept, written_of}
use Rattle.prep_join.specs.Counted.{counted, counts_of}
use Rattle.prep_join.specs.Joining.{IsAt, Fits, AllFit, Refuses}
use Rattle.prep_join.specs.Joined.{IsJoining, GoesOn, Misfits, IsRefused, IsUndone}
use Rattle.prep_join.proofs.Written.{written_yes, written_no}

pub undone : (done : List (List Block)) (text : List ℕ) (current : List Block) (fault : CaptureFault) → Ends (Err fault) text current → IsUndone (faults.Capture fault) done text current
undone done text current blocks.Torn e = e
undone done text current blocks.NoSection e = e
undone done text current other e = absurd e

pub nothing_yet : (joiner : Joiner) (done : List (List Block)) (text : List ℕ) (current : List Block) (piece out : List ℕ) → IsJoining joiner done text current → GoesOn joiner done text current piece piece out out
nothing_yet joiner done text current piece out j = record {
  taken = [];
  more = [];
  cut = refl;
  joining = rw (append-nil text, append-nil current) j;
  added = sym (append-nil out);
}

counts_of-one : (current : List Block) (b : Block) → counts_of (current ++ b ∷ []) ≡ counted (counts_of current) b.kind
counts_of-one current b = fold-append (λ (counts : Counts) (x : Block). counted counts x.kind) (record { interfaces = 0; packets = 0; statistics = 0 }) current (b ∷ [])

fit_one : (done : List (List Block)) (before current : List Block) (b : Block) → AllFit done before current → Fits done (before ++ current) b → AllFit done before (current ++ b ∷ [])
fit_one done before [] b all one = (subst (λ (bs : List Block). Fits done bs b) (append-nil before) one, tt)
fit_one done before (first ∷ others) b all one =
    (all.0, fit_one done (before ++ first ∷ []) others b all.1 (subst (λ (bs : List Block). Fits done bs b) (sym (append_assoc before (first ∷ []) others)) one))

-- one block more, of which this was added
step : (old new : Joiner) (done : List (List Block)) (text : List ℕ) (current : List Block) (piece rest behind before after after' : List ℕ) (b : Block)
    → (g : GoesOn old done text current piece rest before after) → Gave new.splitter (text ++ g.taken) (current ++ g.more) rest b behind → IsAt new.ring done ((current ++ g.more) ++ b ∷ []) → Fits done (current ++ g.more) b
    → new.counts ≡ counted old.counts b.kind → after' ≡ before ++ written_of done (g.more ++ b ∷ []) → GoesOn new done text current piece behind before after'
step old new done text current piece rest behind before after after' b g gave at fits counts added =
    let text_so = append_assoc text g.taken gave.taken in
    let blocks_so = append_assoc current g.more (b ∷ []) in
    record {
      taken = g.taken ++ gave.taken;
      more = g.more ++ b ∷ [];
      cut = g.cut ∙ ap (λ (t : List ℕ). g.taken ++ t) gave.cut ∙ sym (append_assoc g.taken gave.taken behind);
      joining = subst (λ (t : List ℕ). IsJoining new done t (current ++ (g.more ++ b ∷ []))) text_so
          (subst (λ (bs : List Block). IsJoining new done ((text ++ g.taken) ++ gave.taken) bs) blocks_so
          (record { splits = gave.stands; at = at; counts = counts ∙ ap (λ (c : Counts). counted c b.kind) g.joining.counts ∙ sym (counts_of-one (current ++ g.more) b); fits = fit_one done [] (current ++ g.more) b g.joining.fits fits }));
      added = added;
    }

pub step_kept : (old new : Joiner) (done : List (List Block)) (text : List ℕ) (current : List Block) (piece rest behind before after after' : List ℕ) (b : Block)
    → (g : GoesOn old done text current piece rest before after) → Gave new.splitter (text ++ g.taken) (current ++ g.more) rest b behind → IsAt new.ring done ((current ++ g.more) ++ b ∷ []) → Fits done (current ++ g.more) b
    → new.counts ≡ counted old.counts b.kind → is_kept done b ≡ true → after' ≡ after ++ b.bytes → GoesOn new done text current piece behind before after'
step_kept old new done text current piece rest behind before after after' b g gave at fits counts kept added =
    step old new done text current piece rest behind before after after' b g gave at fits counts
    (added ∙ ap (λ (t : List ℕ). t ++ b.bytes) g.added ∙ append_assoc before (written_of done g.more) b.bytes ∙ ap (λ (t : List ℕ). before ++ t) (sym (written_yes done g.more b kept)))

pub step_left : (old new : Joiner) (done : List (List Block)) (text : List ℕ) (current : List Block) (piece rest behind before after after' : List ℕ) (b : Block)
    → (g : GoesOn old done text current piece rest before after) → Gave new.splitter (text ++ g.taken) (current ++ g.more) rest b behind → IsAt new.ring done ((current ++ g.more) ++ b ∷ []) → Fits done (current ++ g.more) b
    → new.counts ≡ counted old.counts b.kind → is_kept done b ≡ false → after' ≡ after → GoesOn new done text current piece behind before after'
step_left old new done text current piece rest behind before after after' b g gave at fits counts kept same =
    step old new done text current piece rest behind before after after' b g gave at fits counts
    (same ∙ g.added ∙ ap (λ (t : List ℕ). before ++ t) (sym (written_no done g.more b kept)))

-- the rest of the piece is no whole block
pub all_taken : (old new : Joiner) (done : List (List Block)) (text : List ℕ) (current : List Block) (piece rest before after : List ℕ) → (g : GoesOn old done text current piece rest before after)
    → StandsFor new.splitter ((text ++ g.taken) ++ rest) (current ++ g.more) → new.ring ≡ old.ring → new.counts ≡ old.counts → GoesOn new done text current piece [] before after
all_taken old new done text current piece rest before after g stands ring counts = record {
  taken = g.taken ++ rest;
  more = g.more;
  cut = g.cut ∙ sym (append-nil (g.taken ++ rest));
  joining = subst (λ (t : List ℕ). IsJoining new done t (current ++ g.more)) (append_assoc text g.taken rest)
      (record { splits = stands; at = rw ring g.joining.at; counts = counts ∙ g.joining.counts; fits = g.joining.fits });
  added = g.added;
}

pub fault_of_text : (old : Joiner) (done : List (List Block)) (text : List ℕ) (current : List Block) (piece rest before after : List ℕ) (fault : CaptureFault) → (g : GoesOn old done text current piece rest before after)
    → EndsBy ((text ++ g.taken) ++ rest) (current ++ g.more) fault → IsRefused (faults.Capture fault) done (text ++ piece) current
fault_of_text old done text current piece rest before after fault g ends =
    let whole : (text ++ g.taken) ++ rest ≡ text ++ piece = append_assoc text g.taken rest ∙ ap (λ (t : List ℕ). text ++ t) (sym g.cut) in
    λ named. let first = ends named in (first.0, subst (λ (t : List ℕ). FirstFault t first.0 fault) whole first.1)

pub fault_of_block : (old new : Joiner) (done : List (List Block)) (text : List ℕ) (current : List Block) (piece rest behind before after : List ℕ) (b : Block) (fault : JoinFault) → (g : GoesOn old done text current piece rest before after)
    → Gave new.splitter (text ++ g.taken) (current ++ g.more) rest b behind → Refuses fault done (current ++ g.more) b → IsRefused fault done (text ++ piece) current
fault_of_block old new done text current piece rest behind before after b fault g gave refused = by_fault fault refused where
  spelled_so : text ++ piece ≡ bytes_of ((current ++ g.more) ++ b ∷ []) ++ (new.splitter.held.items ++ behind)
  spelled_so = ap (λ (t : List ℕ). text ++ t) (g.cut ∙ ap (λ (t : List ℕ). g.taken ++ t) gave.cut) ∙ sym (append_assoc text g.taken (gave.taken ++ behind)) ∙ sym (append_assoc (text ++ g.taken) gave.taken behind)
      ∙ ap (λ (t : List ℕ). t ++ behind) gave.stands.1.spelled ∙ append_assoc (bytes_of ((current ++ g.more) ++ b ∷ [])) new.splitter.held.items behind

  misfits : (f : JoinFault) → Refuses f done (current ++ g.more) b → Misfits f done (text ++ piece) current
  misfits f r = record { more = g.more; block = b; rest = new.splitter.held.items ++ behind; spelled = spelled_so; refused = r }

  by_fault : (f : JoinFault) → Refuses f done (current ++ g.more) b → IsRefused f done (text ++ piece) current
  by_fault (faults.Capture f) (inl is) = λ named. absurd (named is)
  by_fault (faults.Capture f) (inr is) = λ named. absurd (named is)
  by_fault faults.TwoSections r = misfits faults.TwoSections r
  by_fault faults.SectionLength r = misfits faults.SectionLength r
  by_fault faults.Order r = misfits faults.Order r
  by_fault faults.LateInterface r = misfits faults.LateInterface r
  by_fault faults.Interfaces r = misfits faults.Interfaces r
  by_fault (faults.Early iface) r = misfits (faults.Early iface) r

pub at_end : (joiner : Joiner) (done : List (List Block)) (text : List ℕ) (current : List Block) (piece rest before after : List ℕ) → rest ≡ [] → GoesOn joiner done text current piece rest before after → GoesOn joiner done text current piece [] before after
at_end joiner done text current piece rest before after none g = subst (λ (r : List ℕ). GoesOn joiner done text current piece r before after) none g
