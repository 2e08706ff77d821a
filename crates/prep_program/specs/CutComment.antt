-- The comment of a capture that was cut, in a section header at its end.
use Rattle.std.specs.Prelude.{ℕ, List, ◌++◌, codes, decimal, map}
use Rattle.hex.specs.Hex.{encode_lower}
use Rattle.sha2.specs.Sha256.{sha256}
use Rattle.prep_blocks.specs.declared.block.Block.{Block}
use Rattle.prep_blocks.specs.Read.{bytes_of}
use Rattle.prep_comment.specs.Sections.{section_of}
use Rattle.prep_cut.specs.declared.plan.Plan.{Plan}
use Rattle.prep_cut.specs.declared.tally.Totals.{Totals}
use Rattle.prep_cut.specs.Marks.{Marked, written_of}
use Rattle.prep_cut.specs.Marking.{totals_of}

-- the program, how many packets were kept and excluded, and the original's digest in hexadecimal
-- digits
abbrev pub comment_text : Totals → List ℕ → List ℕ
comment_text totals digest =
    codes "turnprep cut: kept " ++ (decimal totals.written ++ (codes " packets and excluded " ++ (decimal totals.left
    ++ (codes ", which the list set-aside has; SHA-256 of the original: " ++ digest))))

abbrev pub comment_of_cut : Totals → List ℕ → List ℕ
comment_of_cut totals digest = section_of (comment_text totals (encode_lower digest))

-- the blocks of a capture, including the excluded ones
abbrev pub blocks_of : List Marked → List Block
blocks_of marks = map (λ (one : Marked). one.block) marks

-- the counts are those of its packets, and the digest is that of its bytes
abbrev pub comment_for : Plan → List Marked → List ℕ
comment_for plan marks = comment_of_cut (totals_of plan marks) (sha256 (bytes_of (blocks_of marks)))

-- the file that is made of a capture: what is not excluded, and the comment
abbrev pub file_of : Plan → List Marked → List ℕ
file_of plan marks = written_of marks ++ comment_for plan marks
