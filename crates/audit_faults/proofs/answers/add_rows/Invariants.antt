use Rattle.audit_sightings.specs.Intake.{taken}
use Rattle.audit_faults.specs.Leased.{IsAnswerBy}
use Rattle.audit_faults.specs.Keyed.{AreKeyedBefore}
use Rattle.audit_faults.proofs.answers.add_rows.Given as goal

abbrev pub invariant-interfaces : goal.invariant-interfaces
invariant-interfaces l = AreKeyedBefore (taken l.intake) IsAnswerBy (record { iface = l.iface; index = 0 }) l.keyed.items l.width
