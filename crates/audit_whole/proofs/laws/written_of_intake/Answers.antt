use Rattle.audit_sightings.specs.Intake.{taken as taken_of}
use Rattle.audit_whole.proofs.laws.written_of_intake.Goals as goal

pub returns : goal.returns
returns c key_for steps apart run few = c.written.ensures (taken_of c.args.intake.now) key_for steps apart c.sightings_are_bounded.ensures run few
