use Rattle.audit_sightings.specs.Intake.{taken}
use Rattle.audit_faults.specs.Leased.{IsAnswerBy}
use Rattle.audit_faults.specs.Keyed.{AreKeyedBefore}
use Rattle.audit_faults.proofs.answers.add_row.Given as goal

abbrev pub invariant-sightings : goal.invariant-sightings
invariant-sightings l = AreKeyedBefore (taken l.intake) IsAnswerBy (record { iface = l.iface; index = l.sighting-index }) l.keyed.items l.widest
