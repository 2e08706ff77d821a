-- Captures that are cut, each to a file of its own.
use Rattle.std.specs.Prelude.{◌≡◌, ℕ, List, [], ◌∷◌, ◌++◌, map, Option, string_bytes}
use Rattle.std.specs.List.{AllByRecursion}
use Rattle.prep_blocks.specs.declared.block.Block.{Block}
use Rattle.prep_blocks.specs.Read.{bytes_of}
use Rattle.prep_blocks.specs.Splitting.{IsWhole}
use Rattle.prep_cut.specs.declared.plan.Plan.{Plan}
use Rattle.prep_cut.specs.Marks.{Marked, marked}
use Rattle.prep_causes.specs.Slots.{pairs_in}
use Rattle.prep_cut.specs.Marking.{AreTallies, carried_of, totals_of}
use Rattle.prep_cut.specs.Pairs.{ArePaired}
use Rattle.prep_cut.specs.Unread.{AreCarried, owing_of}
use Rattle.prep_program.specs.declared.cutting.AllCut.{AllCut}
use Rattle.prep_program.specs.declared.cutting.ToCut.{ToCut}
use Rattle.prep_program.specs.CutComment.{file_of}
use Rattle.prep_program.specs.Making.{FileMade, with_files}

-- the blocks of each capture, each with its line
abbrev pub marks_of : Plan → List ToCut → List (List Block) → List (List Marked)
marks_of plan [] captures = []
marks_of plan (one ∷ others) [] = []
marks_of plan (one ∷ others) (blocks ∷ captures) = marked plan one.proposals.items blocks ∷ marks_of plan others captures

-- those of all captures, one after another
abbrev pub all_marks : List (List Marked) → List Marked
all_marks [] = []
all_marks (first ∷ others) = first ++ all_marks others

-- the file of each capture
abbrev pub files_cut : Plan → List ToCut → List (List Marked) → List FileMade
files_cut plan [] marks = []
files_cut plan (one ∷ others) [] = []
files_cut plan (one ∷ others) (blocks ∷ marks) = record { name = string_bytes one.file; bytes = file_of plan blocks } ∷ files_cut plan others marks

-- The texts are whole captures, each of which was cut to its file. The tallies are those of all
-- captures. They count the departures that have the arrival which they need, and those whose data
-- unread packets may have carried.
pub record CutsAll (all : AllCut) (plan : Plan) (to_cut : List ToCut) (texts : List (List ℕ)) (before after : Option (List FileMade)) : Type 0 where
  pub captures : List (List Block)
  pub spelled : map bytes_of captures ≡ texts
  pub wholes : AllByRecursion (λ blocks. IsWhole (bytes_of blocks) blocks) captures
  pub totals : all.totals.items ≡ map (totals_of plan) (marks_of plan to_cut captures)
  pub tallies : AreTallies plan (all_marks (marks_of plan to_cut captures)) all.tallies
  pub paired : ArePaired plan (all_marks (marks_of plan to_cut captures)) (pairs_in all.tallies.causes.slots.items)
  pub carried : AreCarried plan (all_marks (marks_of plan to_cut captures)) (carried_of all.tallies)
  pub owing : all.tallies.owing ≡ owing_of plan (all_marks (marks_of plan to_cut captures))
  pub files : after ≡ with_files before (files_cut plan to_cut (marks_of plan to_cut captures))
