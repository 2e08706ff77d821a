use Rattle.std.proofs.Common.{◌≡◌, ◌++◌, drop, string_bytes}
use Rattle.audit_sightings.specs.Intake.{taken}
use Rattle.explain_faults.specs.FaultsText.{all_lines}
use Rattle.explain_faults.proofs.reporting.lines_of_all.Given as goal

-- the lines so far and those of what is left are all of them
abbrev pub invariant-faults : goal.invariant-faults
invariant-faults l = string_bytes l.lines ++ all_lines (taken l.intake) (drop l.reported-index l.faults) ≡ all_lines (taken l.intake) l.faults
