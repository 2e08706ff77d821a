use Rattle.std.proofs.Common.{◌≡◌, ◌<◌, ℕ, List, Option, [], Some, take}
use Rattle.audit_model.specs.declared.policy.Policy.{Policy}
use Rattle.prep_blocks.specs.declared.block.Block.{Block}
use Rattle.prep_records.specs.Recording.{IsRecording}
use Rattle.prep_program.specs.Recordings.{RecordedSoFar}
use Rattle.prep_program.proofs.recording.record_capture.Given as goal

-- the recorder was fed the bytes up to the offset
abbrev pub invariant-pieces : goal.invariant-pieces
invariant-pieces g l = record {
  room : 0 < l.piece.len;
  same : g.S.Source.holds l.source ≡ g.S.Source.holds l.fn.source;
  fed : (text : List ℕ) (policy : Policy) (since : Option ℕ) (earlier : List Block) → g.S.Source.holds l.fn.source l.fn.name ≡ Some text → IsRecording l.fn.recorder policy since earlier [] []
      → RecordedSoFar l.recorder policy since earlier (take l.at text);
}
