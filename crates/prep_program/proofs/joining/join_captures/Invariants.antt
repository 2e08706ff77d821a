use Rattle.std.proofs.Common.{◌≡◌, ℕ, List, Some, take}
use Rattle.std.specs.List.{AllZip}
use Rattle.prep_program.proofs.Captures.{AreDone}
use Rattle.prep_program.proofs.joining.join_captures.Given as goal

-- the captures up to the next one are joined
abbrev pub invariant-loop-name : goal.invariant-loop-name
invariant-loop-name g l = record {
  same : g.S.Source.holds l.source ≡ g.S.Source.holds l.fn.source;
  fed : (texts : List (List ℕ)) → AllZip (λ name text. g.S.Source.holds l.fn.source name.now ≡ Some text) l.names texts
      → AreDone l.joiner (take l.name-index texts) (g.M.Sink.taken l.fn.made) (g.M.Sink.taken l.made);
}
