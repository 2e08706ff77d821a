use Rattle.std.proofs.Common.{◌≡◌, ℕ, List, Some, take}
use Rattle.std.specs.List.{AllZip}
use Rattle.prep_program.proofs.RecordedFiles.{AreRecorded}
use Rattle.prep_program.proofs.recording.record_captures.Given as goal

-- the captures up to the next one are recorded
abbrev pub invariant-loop-name : goal.invariant-loop-name
invariant-loop-name g l = record {
  same : g.S.Source.holds l.source ≡ g.S.Source.holds l.fn.source;
  fed : (texts : List (List ℕ)) → AllZip (λ name text. g.S.Source.holds l.fn.source name.now ≡ Some text) l.names texts
      → AreRecorded l.recorder l.fn.policy l.fn.stated.since (take l.name-index texts);
}
