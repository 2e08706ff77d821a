-- Captures that are recorded, and their Allocate requests and responses.
use Rattle.std.specs.Prelude.{◌≡◌, ℕ, List, [], ◌∷◌, ◌++◌, map, Option}
use Rattle.std.specs.List.{AllByRecursion}
use Rattle.audit_model.specs.declared.policy.Policy.{Policy}
use Rattle.prep_blocks.specs.declared.block.Block.{Block}
use Rattle.prep_blocks.specs.Read.{bytes_of}
use Rattle.prep_blocks.specs.Splitting.{IsWhole}
use Rattle.prep_cut.specs.declared.allocations.Allocations.{Allocations}
use Rattle.prep_cut.specs.Allocating.{AreNoted}
use Rattle.prep_records.specs.declared.recorder.Recorder.{Recorder}
use Rattle.prep_records.specs.Recording.{IsRecording, Ended, blocks_from}

-- a capture's text so far is recorded
pub record RecordedSoFar (recorder : Recorder) (policy : Policy) (since : Option ℕ) (earlier : List Block) (text : List ℕ) : Type 0 where
  pub current : List Block
  pub recording : IsRecording recorder policy since earlier text current

-- the text is a whole capture, and recorded
pub record Recorded (recorder : Recorder) (policy : Policy) (since : Option ℕ) (earlier : List Block) (text : List ℕ) : Type 0 where
  pub current : List Block
  pub ended : Ended recorder policy since earlier text current

-- the blocks of captures, in order
abbrev pub blocks_of : List (List Block) → List Block
blocks_of [] = []
blocks_of (first ∷ others) = first ++ blocks_of others

-- the texts are whole captures, and the Allocate requests and responses of their blocks from the
-- stated moment on are recorded
pub record RecordedAll (texts : List (List ℕ)) (policy : Policy) (since : Option ℕ) (allocations : Allocations) : Type 0 where
  pub captures : List (List Block)
  pub spelled : map bytes_of captures ≡ texts
  pub wholes : AllByRecursion (λ blocks. IsWhole (bytes_of blocks) blocks) captures
  pub noted : AreNoted policy allocations (blocks_from since (blocks_of captures))
