use Rattle.std.proofs.Common.{◌≡◌, ◌<◌, ℕ, List, [], Some, take}
use Rattle.prep_cut.specs.declared.plan.Plan.{Plan}
use Rattle.prep_cut.specs.declared.plan.Proposal.{Proposal}
use Rattle.prep_cut.specs.Marks.{Marked}
use Rattle.prep_cut.specs.Cutting.{IsCutting}
use Rattle.prep_program.specs.Cuts.{CutSoFar}
use Rattle.prep_program.proofs.cutting.cut_capture.Given as goal

-- the cutter was fed the bytes up to the offset, and what is not excluded of these is written
abbrev pub invariant-pieces : goal.invariant-pieces
invariant-pieces g l = record {
  room : 0 < l.piece.len;
  same : g.S.Source.holds l.source ≡ g.S.Source.holds l.fn.source;
  others : g.M.Maker.making l.made ≡ g.M.Maker.making l.fn.made;
  fed : (text : List ℕ) (plan : Plan) (proposals : List Proposal) (earlier : List Marked) → g.S.Source.holds l.fn.source l.fn.name ≡ Some text → IsCutting l.fn.cutter plan proposals earlier [] []
      → CutSoFar l.cutter plan proposals earlier (take l.at text) (g.M.Sink.taken l.fn.made) (g.M.Sink.taken l.made);
}
