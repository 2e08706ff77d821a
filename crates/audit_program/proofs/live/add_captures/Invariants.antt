use Rattle.std.proofs.Common.{◌≡◌, [], replicate}
use Rattle.audit_sightings.specs.Files.{StandsFor, not_fed}
use Rattle.audit_program.proofs.live.add_captures.Given as goal

-- so many were added, and no more changed
abbrev pub invariant-loop-number : goal.invariant-loop-number
invariant-loop-number l = record {
  policy : l.live.intake.policy ≡ l.fn.live.intake.policy;
  stands : StandsFor l.fn.live.intake [] → StandsFor l.live.intake (replicate l.number not_fed);
  rest : l.live ≡ record l.fn.live { intake = l.live.intake };
}
