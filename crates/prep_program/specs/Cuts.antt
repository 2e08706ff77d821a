-- Captures that are cut, and the bytes that were written.
use Rattle.std.specs.Prelude.{◌≡◌, ℕ, List, Option}
use Rattle.audit_model.specs.Sink.{followed_by}
use Rattle.prep_blocks.specs.declared.block.Block.{Block}
use Rattle.prep_cut.specs.declared.cutter.Cutter.{Cutter}
use Rattle.prep_cut.specs.declared.cutter.WasCut.{WasCut}
use Rattle.prep_cut.specs.declared.plan.Plan.{Plan}
use Rattle.prep_cut.specs.declared.plan.Proposal.{Proposal}
use Rattle.prep_cut.specs.Marks.{Marked, marked, written_of}
use Rattle.prep_cut.specs.Cutting.{IsCut, IsCutting}

-- of a capture's text so far, all that isn't excluded was written
pub record CutSoFar (cutter : Cutter) (plan : Plan) (proposals : List Proposal) (earlier : List Marked) (text : List ℕ) (before after : Option (List ℕ)) : Type 0 where
  pub current : List Block
  pub cutting : IsCutting cutter plan proposals earlier text current
  pub added : after ≡ followed_by before (written_of (marked plan proposals current))

-- the text is a whole capture, and of its blocks all that isn't excluded was written
pub record Cuts (cut : WasCut) (plan : Plan) (proposals : List Proposal) (earlier : List Marked) (text : List ℕ) (before after : Option (List ℕ)) : Type 0 where
  pub current : List Block
  pub ended : IsCut cut plan proposals earlier text current
  pub added : after ≡ followed_by before (written_of (marked plan proposals current))
