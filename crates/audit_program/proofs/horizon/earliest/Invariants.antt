use Rattle.std.proofs.Common.{◌≡◌}
use Rattle.std.specs.Prelude.{IfNone}
use Rattle.audit_sightings.specs.Intake.{taken}
use Rattle.audit_program.specs.Horizon.{IsEarliestOf}
use Rattle.audit_program.proofs.horizon.earliest.Given as goal

-- the least over the captures so far, each of which has a sighting
abbrev pub invariant-files : goal.invariant-files
invariant-files l = record {
  so_far : IsEarliestOf (taken l.intake) l.file l.earliest;
  none : IfNone l.earliest (l.file ≡ 0);
}
