-- Captures that are reassembled, and the bytes that were written.
use Rattle.std.specs.Prelude.{◌≡◌, ℕ, List, [], Option}
use Rattle.audit_model.specs.Sink.{followed_by}
use Rattle.prep_blocks.specs.declared.block.Block.{Block}
use Rattle.prep_fragments.specs.declared.reassembler.Reassembler.{Reassembler}
use Rattle.prep_fragments.specs.Reassembling.{reassembled, IsDone, IsReassembling}

-- of a capture's text so far, the reassembled blocks were written
pub record ReassemblesSoFar (reassembler : Reassembler) (text : List ℕ) (before after : Option (List ℕ)) : Type 0 where
  pub blocks : List Block
  pub reassembling : IsReassembling reassembler text blocks
  pub added : after ≡ followed_by before (reassembled [] blocks)

-- the text is a whole capture of blocks in which no datagram lacks a fragment, and they were
-- written reassembled
pub record Reassembles (text : List ℕ) (before after : Option (List ℕ)) : Type 0 where
  pub blocks : List Block
  pub ended : IsDone text blocks
  pub added : after ≡ followed_by before (reassembled [] blocks)
