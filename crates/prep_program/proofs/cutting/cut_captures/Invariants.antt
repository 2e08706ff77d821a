use Rattle.std.proofs.Common.{◌≡◌, ℕ, List, Some, take}
use Rattle.std.specs.List.{AllZip}
use Rattle.sha2.specs.Sha256.{sha256}
use Rattle.prep_program.specs.Making.{files_of}
use Rattle.prep_program.proofs.AllCuts.{AreCut}
use Rattle.prep_program.proofs.cutting.cut_captures.Given as goal

-- the captures up to the next one are cut
abbrev pub invariant-loop-one : goal.invariant-loop-one
invariant-loop-one g l = record {
  same : g.S.Source.holds l.source ≡ g.S.Source.holds l.fn.source;
  fed : (texts : List (List ℕ)) → AllZip (λ one text. (g.S.Source.holds l.fn.source one.name.now ≡ Some text) × (one.digest ≡ sha256 text)) l.captures texts
      → AreCut l.totals.items l.tallies l.fn.plan (take l.one-index l.captures) (take l.one-index texts)
      (files_of (g.M.Maker.making l.fn.made) (g.M.Sink.taken l.fn.made)) (files_of (g.M.Maker.making l.made) (g.M.Sink.taken l.made));
}
