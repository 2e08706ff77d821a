use Rattle.std.proofs.Common.{◌≡◌, ℕ, List, Some}
use Rattle.std.specs.List.{AllZip}
use Rattle.audit_sightings.specs.Files.{Fed, StandsFor}
use Rattle.audit_files.proofs.SideBySide.{TookFirst}
use Rattle.audit_files.proofs.captures.take_in_turn.Given as goal

-- the intake has the captures up to the next one
abbrev pub invariant-loop-name : goal.invariant-loop-name
invariant-loop-name g l = record {
  same : g.S.Source.holds l.source ≡ g.S.Source.holds l.fn.source;
  steady : g.S.Source.may_fail l.source ≡ g.S.Source.may_fail l.fn.source;
  policy : l.intake.policy ≡ l.fn.intake.policy;
  fed : (texts : List (List ℕ)) (files : List Fed) → StandsFor l.fn.intake files → AllZip (λ name text. g.S.Source.holds l.fn.source name.now ≡ Some text) l.names texts
      → TookFirst files texts l.name-index l.intake;
}
