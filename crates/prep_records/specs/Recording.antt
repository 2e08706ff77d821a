-- A capture that comes in pieces, and the recorded Allocates.
use Rattle.std.specs.Prelude.{◌≡◌, ℕ, Bool, true, not, filter, List, [], ◌++◌, Option, Some, None}
use Rattle.audit_model.specs.declared.policy.Policy.{Policy}
use Rattle.prep_blocks.specs.declared.block.Block.{Block}
use Rattle.prep_blocks.specs.Splitting.{StandsFor, IsWhole}
use Rattle.prep_blocks.specs.declared.block.PacketHead.{PacketHead}
use Rattle.prep_cut.specs.Allocating.{AreNoted}
use Rattle.prep_cut.specs.Guard.{is_early}
use Rattle.prep_records.specs.declared.recorder.Recorder.{Recorder}

-- it isn't before the stated moment
abbrev pub is_from : Option ℕ → Option PacketHead → Bool
is_from since None = true
is_from since (Some head) = not (is_early since head.stamp)

-- the blocks without those before that moment
abbrev pub blocks_from : Option ℕ → List Block → List Block
blocks_from since blocks = filter (λ (block : Block). is_from since block.packet) blocks

-- After this text of a capture, which has these complete blocks, and after the blocks of the
-- earlier captures: the Allocates from the stated moment on are recorded.
pub record IsRecording (recorder : Recorder) (policy : Policy) (since : Option ℕ) (earlier : List Block) (text : List ℕ) (current : List Block) : Type 0 where
  pub policy_is : recorder.policy.now ≡ policy
  pub splits : StandsFor recorder.splitter text current
  pub since_is : recorder.stated.since ≡ since
  pub noted : AreNoted policy recorder.allocations (blocks_from since (earlier ++ current))

-- the piece was read up to the rest
pub record GoesOn (recorder : Recorder) (policy : Policy) (since : Option ℕ) (earlier : List Block) (text : List ℕ) (current : List Block) (piece rest : List ℕ) : Type 0 where
  pub taken : List ℕ
  pub more : List Block
  pub cut : piece ≡ taken ++ rest
  pub recording : IsRecording recorder policy since earlier (text ++ taken) (current ++ more)

-- the text is a whole capture of these blocks, and the next one begins
pub record Ended (recorder : Recorder) (policy : Policy) (since : Option ℕ) (earlier : List Block) (text : List ℕ) (current : List Block) : Type 0 where
  pub whole : IsWhole text current
  pub next : IsRecording recorder policy since (earlier ++ current) [] []
