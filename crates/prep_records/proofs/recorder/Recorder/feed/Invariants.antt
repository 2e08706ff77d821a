use Rattle.std.proofs.Common.{ℕ, ◌+◌, ◌≤◌, List, Option, length}
use Rattle.audit_model.specs.declared.policy.Policy.{Policy}
use Rattle.prep_blocks.specs.declared.block.Block.{Block}
use Rattle.prep_records.specs.Recording.{IsRecording, GoesOn}
use Rattle.prep_records.proofs.recorder.Recorder.feed.Given as goal

abbrev pub invariant-loop : goal.invariant-loop
invariant-loop l = (policy : Policy) (since : Option ℕ) (earlier : List Block) (text : List ℕ) (current : List Block) → IsRecording l.fn.self policy since earlier text current →
    GoesOn l.self policy since earlier text current l.piece l.rest × (length l.rest + l.counter ≤ length l.piece)
