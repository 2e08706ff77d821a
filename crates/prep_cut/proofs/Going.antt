-- A cutter's relation, step by step.
use Rattle.std.proofs.Common.{◌≡◌, ℕ, true, false, List, [], ◌∷◌, ◌++◌, Err, refl, sym, ap, subst, ◌∙◌, append_assoc}
use Rattle.std.proofs.lemmas.List.{append-nil}
use Rattle.audit_pcapng.specs.declared.fault.CaptureFault.{CaptureFault}
use Rattle.audit_pcapng.specs.declared.fault.CaptureFault.TheVariants as blocks
use Rattle.audit_pcapng.specs.Captures.{FirstFault}
use Rattle.prep_blocks.specs.declared.block.Block.{Block}
use Rattle.prep_blocks.specs.Read.{bytes_of}
use Rattle.prep_blocks.specs.Splitting.{StandsFor, Gave, Ends, EndsBy}
use Rattle.prep_cut.specs.declared.cutter.Cutter.{Cutter}
use Rattle.prep_cut.specs.declared.fault.CutFault.{CutFault}
use Rattle.prep_cut.specs.declared.fault.CutFault.TheVariants as faults
use Rattle.prep_cut.specs.declared.plan.Plan.{Plan}
use Rattle.prep_cut.specs.declared.plan.Proposal.{Proposal}
use Rattle.prep_cut.specs.Marks.{Marked, marked, marked_by, proposals_behind, is_written, written_of}
use Rattle.prep_cut.specs.Marking.{IsAt, RefusesBlock}
use Rattle.prep_cut.specs.Cutting.{IsCutting, GoesOn, IsRefused, IsUndone}
use Rattle.prep_cut.proofs.Marked.{marked-one, behind-append, written_yes, written_no}

pub undone : (text : List ℕ) (current : List Block) (fault : CaptureFault) → Ends (Err fault) text current → IsUndone (faults.Capture fault) text current
undone text current blocks.Torn e = e
undone text current blocks.NoSection e = e
undone text current other e = absurd e

pub nothing_yet : (cutter : Cutter) (plan : Plan) (proposals : List Proposal) (earlier : List Marked) (text : List ℕ) (current : List Block) (piece out : List ℕ)
    → IsCutting cutter plan proposals earlier text current → GoesOn cutter plan proposals earlier text current piece piece out out
nothing_yet cutter plan proposals earlier text current piece out c = record {
  taken = [];
  more = [];
  cut = refl;
  cutting = rw (append-nil text, append-nil current) c;
  added = sym (append-nil out);
}

-- one block more, of which this was added
step : (old new : Cutter) (plan : Plan) (proposals : List Proposal) (earlier : List Marked) (text : List ℕ) (current : List Block) (piece rest behind before after after' : List ℕ) (b : Block)
    → (g : GoesOn old plan proposals earlier text current piece rest before after) → Gave new.splitter (text ++ g.taken) (current ++ g.more) rest b behind
    → IsAt new.marker plan proposals earlier ((current ++ g.more) ++ b ∷ [])
    → after' ≡ before ++ written_of (marked plan (proposals_behind proposals current) (g.more ++ b ∷ [])) → GoesOn new plan proposals earlier text current piece behind before after'
step old new plan proposals earlier text current piece rest behind before after after' b g gave at added =
    let text_so = append_assoc text g.taken gave.taken in
    let blocks_so = append_assoc current g.more (b ∷ []) in
    record {
      taken = g.taken ++ gave.taken;
      more = g.more ++ b ∷ [];
      cut = g.cut ∙ ap (λ (t : List ℕ). g.taken ++ t) gave.cut ∙ sym (append_assoc g.taken gave.taken behind);
      cutting = subst (λ (t : List ℕ). IsCutting new plan proposals earlier t (current ++ (g.more ++ b ∷ []))) text_so
          (subst (λ (bs : List Block). IsCutting new plan proposals earlier ((text ++ g.taken) ++ gave.taken) bs) blocks_so
          (record { splits = gave.stands; at = at }));
      added = added;
    }

-- the block as it is marked behind those before
mark_so : (old : Cutter) (plan : Plan) (proposals : List Proposal) (earlier : List Marked) (current more : List Block) (b : Block) → IsAt old.marker plan proposals earlier (current ++ more)
    → marked_by old.marker.plan.now old.marker.proposals.now b ≡ marked_by plan (proposals_behind (proposals_behind proposals current) more) b
mark_so old plan proposals earlier current more b at =
    ap (λ (p : Plan). marked_by p old.marker.proposals.now b) at.plan_is ∙ ap (λ (ps : List Proposal). marked_by plan ps b) (at.rest ∙ behind-append proposals current more)

pub step_written : (old new : Cutter) (plan : Plan) (proposals : List Proposal) (earlier : List Marked) (text : List ℕ) (current : List Block) (piece rest behind before after after' : List ℕ) (b : Block)
    → (g : GoesOn old plan proposals earlier text current piece rest before after) → Gave new.splitter (text ++ g.taken) (current ++ g.more) rest b behind
    → IsAt new.marker plan proposals earlier ((current ++ g.more) ++ b ∷ [])
    → is_written (marked_by old.marker.plan.now old.marker.proposals.now b) ≡ true → after' ≡ after ++ b.bytes → GoesOn new plan proposals earlier text current piece behind before after'
step_written old new plan proposals earlier text current piece rest behind before after after' b g gave at written added =
    let start = proposals_behind proposals current in
    let one = marked_by plan (proposals_behind start g.more) b in
    let is : is_written one ≡ true = ap is_written (sym (mark_so old plan proposals earlier current g.more b g.cutting.at)) ∙ written in
    step old new plan proposals earlier text current piece rest behind before after after' b g gave at
    (added ∙ ap (λ (t : List ℕ). t ++ b.bytes) g.added ∙ append_assoc before (written_of (marked plan start g.more)) b.bytes
    ∙ ap (λ (t : List ℕ). before ++ t) (sym (written_yes (marked plan start g.more) one is) ∙ ap written_of (sym (marked-one plan start g.more b))))

pub step_left : (old new : Cutter) (plan : Plan) (proposals : List Proposal) (earlier : List Marked) (text : List ℕ) (current : List Block) (piece rest behind before after after' : List ℕ) (b : Block)
    → (g : GoesOn old plan proposals earlier text current piece rest before after) → Gave new.splitter (text ++ g.taken) (current ++ g.more) rest b behind
    → IsAt new.marker plan proposals earlier ((current ++ g.more) ++ b ∷ [])
    → is_written (marked_by old.marker.plan.now old.marker.proposals.now b) ≡ false → after' ≡ after → GoesOn new plan proposals earlier text current piece behind before after'
step_left old new plan proposals earlier text current piece rest behind before after after' b g gave at written same =
    let start = proposals_behind proposals current in
    let one = marked_by plan (proposals_behind start g.more) b in
    let is : is_written one ≡ false = ap is_written (sym (mark_so old plan proposals earlier current g.more b g.cutting.at)) ∙ written in
    step old new plan proposals earlier text current piece rest behind before after after' b g gave at
    (same ∙ g.added ∙ ap (λ (t : List ℕ). before ++ t) (sym (written_no (marked plan start g.more) one is) ∙ ap written_of (sym (marked-one plan start g.more b))))

-- the rest of the piece is no whole block
pub all_taken : (old new : Cutter) (plan : Plan) (proposals : List Proposal) (earlier : List Marked) (text : List ℕ) (current : List Block) (piece rest before after : List ℕ)
    → (g : GoesOn old plan proposals earlier text current piece rest before after)
    → StandsFor new.splitter ((text ++ g.taken) ++ rest) (current ++ g.more) → new.marker ≡ old.marker → GoesOn new plan proposals earlier text current piece [] before after
all_taken old new plan proposals earlier text current piece rest before after g stands marker = record {
  taken = g.taken ++ rest;
  more = g.more;
  cut = g.cut ∙ sym (append-nil (g.taken ++ rest));
  cutting = subst (λ (t : List ℕ). IsCutting new plan proposals earlier t (current ++ g.more)) (append_assoc text g.taken rest)
      (record { splits = stands; at = rw marker g.cutting.at });
  added = g.added;
}

pub fault_of_text : (old : Cutter) (plan : Plan) (proposals : List Proposal) (earlier : List Marked) (text : List ℕ) (current : List Block) (piece rest before after : List ℕ) (fault : CaptureFault)
    → (g : GoesOn old plan proposals earlier text current piece rest before after)
    → EndsBy ((text ++ g.taken) ++ rest) (current ++ g.more) fault → IsRefused (faults.Capture fault) (text ++ piece) current
fault_of_text old plan proposals earlier text current piece rest before after fault g ends =
    let whole : (text ++ g.taken) ++ rest ≡ text ++ piece = append_assoc text g.taken rest ∙ ap (λ (t : List ℕ). text ++ t) (sym g.cut) in
    λ named. let first = ends named in (first.0, subst (λ (t : List ℕ). FirstFault t first.0 fault) whole first.1)

pub fault_of_block : (old new : Cutter) (plan : Plan) (proposals : List Proposal) (earlier : List Marked) (text : List ℕ) (current : List Block) (piece rest behind before after : List ℕ) (b : Block) (fault : CutFault)
    → (g : GoesOn old plan proposals earlier text current piece rest before after)
    → Gave new.splitter (text ++ g.taken) (current ++ g.more) rest b behind → RefusesBlock fault b → IsRefused fault (text ++ piece) current
fault_of_block old new plan proposals earlier text current piece rest behind before after b fault g gave refused = by_fault fault refused where
  spelled_so : text ++ piece ≡ bytes_of ((current ++ g.more) ++ b ∷ []) ++ (new.splitter.held.items ++ behind)
  spelled_so = ap (λ (t : List ℕ). text ++ t) (g.cut ∙ ap (λ (t : List ℕ). g.taken ++ t) gave.cut) ∙ sym (append_assoc text g.taken (gave.taken ++ behind)) ∙ sym (append_assoc (text ++ g.taken) gave.taken behind)
      ∙ ap (λ (t : List ℕ). t ++ behind) gave.stands.1.spelled ∙ append_assoc (bytes_of ((current ++ g.more) ++ b ∷ [])) new.splitter.held.items behind

  by_fault : (f : CutFault) → RefusesBlock f b → IsRefused f (text ++ piece) current
  by_fault (faults.Capture f) r = absurd r
  by_fault faults.SectionLength r = record { more = g.more; block = b; rest = new.splitter.held.items ++ behind; spelled = spelled_so; refused = r }

pub at_end : (cutter : Cutter) (plan : Plan) (proposals : List Proposal) (earlier : List Marked) (text : List ℕ) (current : List Block) (piece rest before after : List ℕ)
    → rest ≡ [] → GoesOn cutter plan proposals earlier text current piece rest before after → GoesOn cutter plan proposals earlier text current piece [] before after
at_end cutter plan proposals earlier text current piece rest before after none g = subst (λ (r : List ℕ). GoesOn cutter plan proposals earlier text current piece r before after) none g
