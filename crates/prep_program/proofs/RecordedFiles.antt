-- The pieces of a capture that is recorded, and captures one after another.
use Rattle.std.proofs.Common.{◌≡◌, ℕ, List, [], ◌∷◌, ◌++◌, map, Option, Result, Ok, Err, OnOk, refl, sym, ap, subst, ◌∙◌, append_assoc}
use Rattle.std.specs.List.{AllByRecursion}
use Rattle.std.proofs.lemmas.List.{append-nil, map-append}
use Rattle.audit_model.specs.declared.policy.Policy.{Policy}
use Rattle.prep_blocks.specs.declared.block.Block.{Block}
use Rattle.prep_blocks.specs.Read.{bytes_of}
use Rattle.prep_blocks.specs.Splitting.{IsWhole}
use Rattle.prep_records.specs.declared.recorder.Recorder.{Recorder}
use Rattle.prep_records.specs.Recording.{IsRecording, GoesOn, Ended}
use Rattle.prep_program.specs.declared.stop.Stop.{Stop}
use Rattle.prep_program.specs.Recordings.{RecordedSoFar, Recorded, blocks_of}

pub nothing_recorded : (recorder : Recorder) (policy : Policy) (since : Option ℕ) (earlier : List Block) → IsRecording recorder policy since earlier [] [] → RecordedSoFar recorder policy since earlier []
nothing_recorded recorder policy since earlier r = record { current = []; recording = r }

-- a piece more
pub recorded_more : (old new : Recorder) (policy : Policy) (since : Option ℕ) (earlier : List Block) (text piece : List ℕ) → (s : RecordedSoFar old policy since earlier text)
    → GoesOn new policy since earlier text s.current piece [] → RecordedSoFar new policy since earlier (text ++ piece)
recorded_more old new policy since earlier text piece s on =
    let all : text ++ on.taken ≡ text ++ piece = ap (λ (t : List ℕ). text ++ t) (sym (append-nil on.taken) ∙ sym on.cut) in
    record { current = s.current ++ on.more; recording = subst (λ (t : List ℕ). IsRecording new policy since earlier t (s.current ++ on.more)) all on.recording }

-- the end of a capture
pub recorded_whole : (old new : Recorder) (policy : Policy) (since : Option ℕ) (earlier : List Block) (text whole : List ℕ) (r : Result (Unit {0}) Stop) → text ≡ whole
    → (s : RecordedSoFar old policy since earlier text) → OnOk r (Ended new policy since earlier text s.current) → OnOk r (Recorded new policy since earlier whole)
recorded_whole old new policy since earlier text whole (Ok done) e s is = record { current = s.current; ended = subst (λ (t : List ℕ). Ended new policy since earlier t s.current) e is }
recorded_whole old new policy since earlier text whole (Err stop) e s is = tt

-- the captures that are done
pub record AreRecorded (recorder : Recorder) (policy : Policy) (since : Option ℕ) (texts : List (List ℕ)) : Type 0 where
  pub done : List (List Block)
  pub recording : IsRecording recorder policy since (blocks_of done) [] []
  pub spelled : map bytes_of done ≡ texts
  pub wholes : AllByRecursion (λ blocks. IsWhole (bytes_of blocks) blocks) done

pub none_recorded : (recorder : Recorder) (policy : Policy) (since : Option ℕ) → IsRecording recorder policy since [] [] [] → AreRecorded recorder policy since []
none_recorded recorder policy since r = record { done = []; recording = r; spelled = refl; wholes = tt }

all_then : (P : List Block → Type 0) (xs : List (List Block)) (x : List Block) → AllByRecursion P xs → P x → AllByRecursion P (xs ++ x ∷ [])
all_then P [] x all one = (one, tt)
all_then P (y ∷ xs) x all one = (all.0, all_then P xs x all.1 one)

one_longer : (xs : List (List Block)) (x : List Block) → blocks_of (xs ++ x ∷ []) ≡ blocks_of xs ++ x
one_longer [] x = append-nil x
one_longer (y ∷ ys) x = ap (λ (t : List Block). y ++ t) (one_longer ys x) ∙ sym (append_assoc y (blocks_of ys) x)

-- a capture more
pub one_recorded : (old new : Recorder) (policy : Policy) (since : Option ℕ) (texts : List (List ℕ)) (text : List ℕ) → (d : AreRecorded old policy since texts) → Recorded new policy since (blocks_of d.done) text
    → AreRecorded new policy since (texts ++ text ∷ [])
one_recorded old new policy since texts text d r =
    let longer = one_longer d.done r.current in
    record {
      done = d.done ++ r.current ∷ [];
      recording = subst (λ (bs : List Block). IsRecording new policy since bs [] []) (sym longer) r.ended.next;
      spelled = map-append bytes_of d.done (r.current ∷ []) ∙ ap (λ (t : List (List ℕ)). t ++ bytes_of r.current ∷ []) d.spelled ∙ ap (λ (t : List ℕ). texts ++ t ∷ []) (sym r.ended.whole.spelled);
      wholes = all_then (λ blocks. IsWhole (bytes_of blocks) blocks) d.done r.current d.wholes (subst (λ (t : List ℕ). IsWhole t r.current) r.ended.whole.spelled r.ended.whole);
    }
