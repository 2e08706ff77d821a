-- Captures that are cut, one after another.
use Rattle.std.proofs.Common.{◌≡◌, ℕ, suc, List, [], ◌∷◌, ◌++◌, map, length, Option, Some, None, refl, sym, ap, subst, ◌∙◌, append_assoc, string_bytes, arith}
use Rattle.std.specs.List.{AllByRecursion}
use Rattle.std.proofs.lemmas.List.{append-nil, map-append}
use Rattle.audit_model.specs.Sink.{followed_by}
use Rattle.prep_blocks.specs.declared.block.Block.{Block}
use Rattle.prep_blocks.specs.Read.{bytes_of}
use Rattle.prep_blocks.specs.Splitting.{IsWhole}
use Rattle.prep_cut.specs.declared.cutter.WasCut.{WasCut}
use Rattle.prep_cut.specs.declared.plan.Plan.{Plan}
use Rattle.prep_cut.specs.declared.tallies.Tallies.{Tallies}
use Rattle.prep_cut.specs.declared.tally.Totals.{Totals}
use Rattle.prep_cut.specs.declared.plan.Proposal.{Proposal}
use Rattle.prep_cut.specs.Marks.{Marked, behind, marked, written_of}
use Rattle.prep_cut.specs.Marking.{AreTallies, totals_of}
use Rattle.prep_program.specs.declared.cutting.ToCut.{ToCut}
use Rattle.sha2.specs.Sha256.{sha256}
use Rattle.prep_program.specs.AllCuts.{marks_of, all_marks, files_cut}
use Rattle.prep_program.specs.CutComment.{blocks_of, comment_for, comment_of_cut, file_of}
use Rattle.prep_program.specs.Cuts.{Cuts}
use Rattle.prep_program.proofs.Captures.{followed_twice}
use Rattle.prep_program.specs.Making.{FileMade, Making, emptied, files_of, opened_by, with_files}

-- the captures that are cut
pub record AreCut (totals : List Totals) (tallies : Tallies) (plan : Plan) (to_cut : List ToCut) (texts : List (List ℕ)) (before after : Option (List FileMade)) : Type 0 where
  pub done : List (List Block)
  pub len : length done ≡ length to_cut
  pub spelled : map bytes_of done ≡ texts
  pub wholes : AllByRecursion (λ blocks. IsWhole (bytes_of blocks) blocks) done
  pub totals_are : totals ≡ map (totals_of plan) (marks_of plan to_cut done)
  pub tallies_are : AreTallies plan (all_marks (marks_of plan to_cut done)) tallies
  pub files : after ≡ with_files before (files_cut plan to_cut (marks_of plan to_cut done))

no_files : (before : Option (List FileMade)) → before ≡ with_files before []
no_files None = refl
no_files (Some files) = ap Some (sym (append-nil files))

pub none_cut : (tallies : Tallies) (plan : Plan) (before : Option (List FileMade)) → AreTallies plan [] tallies → AreCut [] tallies plan [] [] before before
none_cut tallies plan before none = record {
  done = [];
  len = refl;
  spelled = refl;
  wholes = tt;
  totals_are = refl;
  tallies_are = none;
  files = no_files before;
}

all_marks-one : (marks : List (List Marked)) (last : List Marked) → all_marks (marks ++ last ∷ []) ≡ all_marks marks ++ last
all_marks-one [] last = append-nil last
all_marks-one (first ∷ others) last = ap (λ (t : List Marked). first ++ t) (all_marks-one others last) ∙ sym (append_assoc first (all_marks others) last)

marks-one : (plan : Plan) (to_cut : List ToCut) (one : ToCut) (done : List (List Block)) (blocks : List Block) → length done ≡ length to_cut
    → marks_of plan (to_cut ++ one ∷ []) (done ++ blocks ∷ []) ≡ marks_of plan to_cut done ++ marked plan one.proposals.items blocks ∷ []
marks-one plan [] one [] blocks e = refl
marks-one plan [] one (b ∷ done) blocks e = absurd (omega (arith, e))
marks-one plan (a ∷ to_cut) one [] blocks e = absurd (omega (arith, e))
marks-one plan (a ∷ to_cut) one (b ∷ done) blocks e = ap (λ (t : List (List Marked)). marked plan a.proposals.items b ∷ t) (marks-one plan to_cut one done blocks (omega (arith, e)))

files-one : (plan : Plan) (to_cut : List ToCut) (one : ToCut) (done : List (List Block)) (last : List Marked) → length done ≡ length to_cut
    → files_cut plan (to_cut ++ one ∷ []) (marks_of plan to_cut done ++ last ∷ []) ≡ files_cut plan to_cut (marks_of plan to_cut done) ++ record { name = string_bytes one.file; bytes = file_of plan last } ∷ []
files-one plan [] one [] last e = refl
files-one plan [] one (b ∷ done) last e = absurd (omega (arith, e))
files-one plan (a ∷ to_cut) one [] last e = absurd (omega (arith, e))
files-one plan (a ∷ to_cut) one (b ∷ done) last e =
    ap (λ (t : List FileMade). record { name = string_bytes a.file; bytes = file_of plan (marked plan a.proposals.items b) } ∷ t) (files-one plan to_cut one done last (omega (arith, e)))

all_then : (P : List Block → Type 0) (xs : List (List Block)) (x : List Block) → AllByRecursion P xs → P x → AllByRecursion P (xs ++ x ∷ [])
all_then P [] x all one = (one, tt)
all_then P (y ∷ xs) x all one = (all.0, all_then P xs x all.1 one)

-- a file is made, and takes bytes
pub file_more : (making : Option Making) (taken : Option (List ℕ)) (name bytes : List ℕ)
    → files_of (opened_by name (files_of making taken)) (followed_by (emptied taken) bytes) ≡ with_files (files_of making taken) (record { name = name; bytes = bytes } ∷ [])
file_more None taken name bytes = refl
file_more (Some making) None name bytes = refl
file_more (Some making) (Some before) name bytes = refl

-- the file of a name was made, and took bytes
pub file_made : (m0 m1 m2 : Option Making) (t0 t1 t2 : Option (List ℕ)) (name bytes : List ℕ) → m1 ≡ opened_by name (files_of m0 t0) → t1 ≡ emptied t0 → m2 ≡ m1 → t2 ≡ followed_by t1 bytes
    → files_of m2 t2 ≡ with_files (files_of m0 t0) (record { name = name; bytes = bytes } ∷ [])
file_made m0 m1 m2 t0 t1 t2 name bytes opened empty same took =
    ap (λ (m : Option Making). files_of m t2) (same ∙ opened)
    ∙ ap (files_of (opened_by name (files_of m0 t0))) (took ∙ ap (λ (t : Option (List ℕ)). followed_by t bytes) empty)
    ∙ file_more m0 t0 name bytes

files_twice : (before : Option (List FileMade)) (a b : List FileMade) → with_files (with_files before a) b ≡ with_files before (a ++ b)
files_twice None a b = refl
files_twice (Some files) a b = ap Some (append_assoc files a b)

length_one : {A : Type 0} (xs : List A) (x : A) → length (xs ++ x ∷ []) ≡ suc (length xs)
length_one [] x = refl
length_one (y ∷ xs) x = ap suc (length_one xs x)

pub blocks_same : (plan : Plan) (proposals : List Proposal) (blocks : List Block) → blocks_of (marked plan proposals blocks) ≡ blocks
blocks_same plan proposals [] = refl
blocks_same plan proposals (b ∷ others) = ap (λ (rest : List Block). b ∷ rest) (blocks_same plan (behind b.packet proposals) others)

-- the comment of a capture that was cut is about it
commented : (plan : Plan) (proposals : List Proposal) (blocks : List Block) (totals : Totals) (text digest : List ℕ) → totals ≡ totals_of plan (marked plan proposals blocks) → text ≡ bytes_of blocks → digest ≡ sha256 text
    → comment_of_cut totals digest ≡ comment_for plan (marked plan proposals blocks)
commented plan proposals blocks totals text digest e f g =
    rw (e, g) (ap (λ (bytes : List ℕ). comment_of_cut (totals_of plan (marked plan proposals blocks)) (sha256 bytes)) (f ∙ ap bytes_of (sym (blocks_same plan proposals blocks))))

-- a capture more
pub one_cut : (totals : List Totals) (tallies : Tallies) (plan : Plan) (to_cut : List ToCut) (texts : List (List ℕ)) (before middle after : Option (List FileMade)) (one : ToCut) (text : List ℕ) (cut : WasCut)
    (digest : List ℕ) (first last end : Option (List ℕ)) → (d : AreCut totals tallies plan to_cut texts before middle)
    → Cuts cut plan one.proposals.items (all_marks (marks_of plan to_cut d.done)) text first last
    → digest ≡ sha256 text → end ≡ followed_by last (comment_of_cut cut.totals digest)
    → ((bytes : List ℕ) → end ≡ followed_by first bytes → after ≡ with_files middle (record { name = string_bytes one.file; bytes = bytes } ∷ []))
    → AreCut (totals ++ cut.totals ∷ []) cut.tallies plan (to_cut ++ one ∷ []) (texts ++ text ∷ []) before after
one_cut totals tallies plan to_cut texts before middle after one text cut digest first last end d c hashed put made =
    let new = marked plan one.proposals.items c.current in
    let marks = marks_of plan to_cut d.done in
    let longer : marks_of plan (to_cut ++ one ∷ []) (d.done ++ c.current ∷ []) ≡ marks ++ new ∷ [] = marks-one plan to_cut one d.done c.current d.len in
    let all : all_marks (marks ++ new ∷ []) ≡ all_marks marks ++ new = all_marks-one marks new in
    record {
      done = d.done ++ c.current ∷ [];
      len = length_one d.done c.current ∙ ap suc d.len ∙ sym (length_one to_cut one);
      spelled = map-append bytes_of d.done (c.current ∷ []) ∙ ap (λ (t : List (List ℕ)). t ++ bytes_of c.current ∷ []) d.spelled ∙ ap (λ (t : List ℕ). texts ++ t ∷ []) (sym c.ended.whole.spelled);
      wholes = all_then (λ blocks. IsWhole (bytes_of blocks) blocks) d.done c.current d.wholes (subst (λ (t : List ℕ). IsWhole t c.current) c.ended.whole.spelled c.ended.whole);
      totals_are = ap (λ (t : List Totals). t ++ cut.totals ∷ []) d.totals_are ∙ ap (λ (t : Totals). map (totals_of plan) marks ++ t ∷ []) c.ended.totals
          ∙ sym (map-append (totals_of plan) marks (new ∷ [])) ∙ ap (map (totals_of plan)) (sym longer);
      tallies_are = subst (λ (m : List (List Marked)). AreTallies plan (all_marks m) cut.tallies) (sym longer) (subst (λ (m : List Marked). AreTallies plan m cut.tallies) (sym all) c.ended.tallies);
      files = made (file_of plan new)
          (put ∙ ap (λ (l : Option (List ℕ)). followed_by l (comment_of_cut cut.totals digest)) c.added ∙ followed_twice first (written_of new) (comment_of_cut cut.totals digest)
          ∙ ap (λ (said : List ℕ). followed_by first (written_of new ++ said)) (commented plan one.proposals.items c.current cut.totals text digest c.ended.totals c.ended.whole.spelled hashed))
          ∙ ap (λ (m : Option (List FileMade)). with_files m (record { name = string_bytes one.file; bytes = file_of plan new } ∷ [])) d.files
          ∙ files_twice before (files_cut plan to_cut marks) (record { name = string_bytes one.file; bytes = file_of plan new } ∷ [])
          ∙ ap (with_files before) (sym (files-one plan to_cut one d.done new d.len) ∙ ap (files_cut plan (to_cut ++ one ∷ [])) (sym longer));
    }
