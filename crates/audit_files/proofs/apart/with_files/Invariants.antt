use Rattle.std.proofs.Common.{◌≡◌}
use Rattle.std.specs.Prelude.{replicate}
use Rattle.audit_sightings.specs.Files.{StandsFor, not_fed}
use Rattle.audit_files.proofs.apart.with_files.Given as goal

abbrev pub invariant-files : goal.invariant-files
invariant-files l = record {
  policy : l.made.policy ≡ l.fn.intake.policy;
  stands : StandsFor l.made (replicate l.counter not_fed);
}
